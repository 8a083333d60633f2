use Rattle.std.proofs.Common.{◌≡◌, ℕ, List, [], ◌∷◌, ◌++◌, refl, append_assoc}
use Rattle.std.specs.Prelude.{decimal}
use Rattle.std.proofs.lemmas.Result.{err_from_is_err_and}
use Rattle.rbbi_tally.specs.declared.counts.ValueCount.{ValueCount}
use Rattle.rbbi_tool.specs.Command.Tally.{count_line}
use Rattle.rbbi_tool.proofs.Saying.{IsSaid, said_none, said_more, said_front, said_rest}
use Rattle.rbbi_tool.proofs.tallying.say_count.Goals as goal

-- nothing was said, then the value, then a space, then the count
said_first : (pair : ValueCount) (old : List ℕ) → IsSaid old (count_line pair) (decimal pair.value ++ (32 ∷ (decimal pair.count ++ 10 ∷ []))) old
said_first pair old = said_none old (count_line pair) _ (append_assoc (decimal pair.value) (32 ∷ decimal pair.count) (10 ∷ []))

said_value : (pair : ValueCount) (old a : List ℕ) → a ≡ old ++ decimal pair.value → IsSaid old (count_line pair) (32 ∷ (decimal pair.count ++ 10 ∷ [])) a
said_value pair old a is = said_more old (count_line pair) _ old (said_first pair old) (decimal pair.value) _ a refl is

said_space : (pair : ValueCount) (old a b : List ℕ) → a ≡ old ++ decimal pair.value → b ≡ a ++ 32 ∷ [] →
    IsSaid old (count_line pair) (decimal pair.count ++ 10 ∷ []) b
said_space pair old a b is more = said_more old (count_line pair) _ a (said_value pair old a is) (32 ∷ []) _ b refl more

pub returns-in_err-append_number : goal.returns-in_err-append_number
returns-in_err-append_number c =
    let told = err_from_is_err_and c.from_residual.result c.from_residual.ensures.1 in
    rw told.1 (said_front _ _ _ _ (said_first c.args.pair c.args.made.now.items) (decimal c.args.pair.value) _ _ refl c.in_err-append_number.ensures)

pub returns-in_err-append : goal.returns-in_err-append
returns-in_err-append c =
    let told = err_from_is_err_and c.from_residual-in_err-append.result c.from_residual-in_err-append.ensures.1 in
    rw told.1
    (said_front _ _ _ _ (said_value c.args.pair c.args.made.now.items c.append_number.new.out.items c.in_ok-append_number.ensures) (32 ∷ []) _ _ refl
    c.in_err-append.ensures)

pub returns-in_err-append_number-2 : goal.returns-in_err-append_number-2
returns-in_err-append_number-2 c =
    let told = err_from_is_err_and c.from_residual-in_err-append_number-2.result c.from_residual-in_err-append_number-2.ensures.1 in
    rw told.1
    (said_front _ _ _ _
    (said_space c.args.pair c.args.made.now.items c.append_number.new.out.items c.append.new.out.items c.in_ok-append_number.ensures c.in_ok-append.ensures)
    (decimal c.args.pair.count) _ _ refl c.in_err-append_number-2.ensures)

pub returns : goal.returns
returns c =
    said_rest _ _ _ _
    (said_more _ _ _ _
    (said_space c.args.pair c.args.made.now.items c.append_number.new.out.items c.append.new.out.items c.in_ok-append_number.ensures c.in_ok-append.ensures)
    (decimal c.args.pair.count) (10 ∷ []) c.append_number-2.new.out.items refl c.in_ok-append_number-2.ensures) _ _ c.append-2.ensures
