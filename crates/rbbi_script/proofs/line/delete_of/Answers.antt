use Rattle.std.proofs.Common.{◌≡◌, ℕ, List, [], Some, None, ap, sym, ◌∙◌}
use Rattle.std.proofs.lemmas.Str.{chars-nil}
use Rattle.rbbi_text.specs.Numbers.{decimal}
use Rattle.rbbi_script.specs.Grammar.{most_number}
use Rattle.rbbi_script.proofs.EditLines.{delete_no_place, delete_no_count, deletes}
use Rattle.rbbi_script.proofs.line.delete_of.Goals as goal

pub returns-in_default : goal.returns-in_default
returns-in_default c = delete_no_place c.args.fields.now c.in_default.ensures

no_count : (digits : List ℕ) → None ≡ decimal most_number digits → (m : ℕ) → decimal most_number digits ≡ Some m → ⊥
no_count digits none m some = let clash : None ≡ Some m = none ∙ some in cc

pub returns-in_default-decimal : goal.returns-in_default-decimal
returns-in_default-decimal c =
    delete_no_count c.args.fields.now c.in-Some.at c.in-Some.rest.now c.in-Some.ensures
    (no_count c.in-Some.rest.now (c.in_default-decimal.ensures.value ∙ ap (decimal most_number) c.as_bytes.ensures.value))

pub returns : goal.returns
returns c =
    let empty : c.in_ok-text.text ≡ [] = c.in_ok-text.ensures ∙ chars-nil in
    rw empty
    (deletes c.args.fields.now c.in-Some.at c.in-Some.rest.now c.in-Some-decimal.remove c.in-Some.ensures.is
    (ap (decimal most_number) (sym c.as_bytes.ensures.value) ∙ sym c.in-Some-decimal.ensures.value))
