-- The lines of a text, one after another.
use Rattle.std.proofs.Common.{◌≡◌, ℕ, suc, Bool, true, false, cond, eqb, ◌+◌, ◌<◌, ◌≤◌, List, [], ◌∷◌, ◌++◌, length, take, drop, get_or, ap, sym}
use Rattle.std.proofs.Common.{Option, Some, None, ◌∙◌, drop-cons, add-one, Bor, arith}
use Rattle.std.specs.List.{slice_split}
use Rattle.std.specs.Iterator.{Yields}
use Rattle.std.specs.Str.Iter.{lines_rest, lines_steps}
use Rattle.std.specs.Str.Lines.{lines, lines_of_parts}
use Rattle.std.proofs.lemmas.List.{take_more, length-take-le, take-append-drop, get_or_default}
use Rattle.std.proofs.lemmas.List.Splits.{length-slice_split}
use Rattle.std.proofs.lemmas.List.Sums.{count_by-le-length}
use Rattle.std.proofs.lemmas.Iterator.Splits.{YieldsList-from_lines}
use Rattle.std.proofs.lemmas.Iterator.Consumers.{YieldsList-turn, YieldsList-end}

length-lines_of_parts : (parts : List (List ℕ)) → length (lines_of_parts parts) ≤ length parts
length-lines_of_parts [] = omega arith
length-lines_of_parts (x ∷ []) = both (eqb (length x) 0)
  where
    both : (b : Bool) → length (cond b [] (x ∷ [])) ≤ 1
    both true = omega arith
    both false = omega arith
length-lines_of_parts (x ∷ y ∷ more) = omega (arith, length-lines_of_parts (y ∷ more))

-- a text has at most one line more than bytes
pub length-lines : (xs : List ℕ) → length (lines xs) ≤ length xs + 1
length-lines xs =
    let p : ℕ → Bool = λ b. eqb b 10 in
    omega (arith, length-lines_of_parts (slice_split p xs), length-slice_split p xs, count_by-le-length p xs)

-- the line before which so many stand
pub record IsLineAt (all : List (List ℕ)) (number : ℕ) (line : List ℕ) : Type 0 where
  pub within : number < length all
  pub stands : get_or all number [] ≡ line
  pub parts : all ≡ take number all ++ line ∷ drop (number + 1) all
  pub taken : take (number + 1) all ≡ take number all ++ line ∷ []
  pub before : length (take number all) ≡ number

line_at : (all : List (List ℕ)) (number : ℕ) (line : List ℕ) → number < length all → get_or all number line ≡ line → IsLineAt all number line
line_at all number line within is = record {
  within = within;
  stands = get_or_default all number [] line within ∙ is;
  parts =
      sym (take-append-drop number all)
      ∙ ap (λ rest. take number all ++ rest)
      (drop-cons all number line within ∙ ap (λ l. l ∷ drop (suc number) all) is ∙ ap (λ n. line ∷ drop n all) (sym (add-one number)));
  taken = take_more all number line within ∙ ap (λ l. take number all ++ l ∷ []) is;
  before = length-take-le number all (omega arith);
}

-- a line that comes after so many is the one with that number
pub line_told : {text : List ℕ} {next : Option (Bor (List ℕ))} {line : Bor (List ℕ)} {number : ℕ} (s t u : _) (yielded : List (Bor (List ℕ))) →
    lines_rest s ≡ text → Yields lines_steps s yielded t → next ≡ Some line → lines_steps t next u → number ≡ length yielded →
    IsLineAt (lines text) number line.now
line_told {text} {next} {line} {number} s t u yielded rest yields is steps counted =
    let turn = YieldsList-turn (YieldsList-from_lines text rest) yielded t yields next u line is steps in
    line_at (lines text) number line.now (omega (arith, turn.0)) (ap (λ k. get_or (lines text) k line.now) counted ∙ sym turn.1)

-- where no line comes any more, there are no others
pub all_told : {text : List ℕ} {next : Option (Bor (List ℕ))} {number : ℕ} (s t u : _) (yielded : List (Bor (List ℕ))) → lines_rest s ≡ text →
    Yields lines_steps s yielded t → next ≡ None → lines_steps t next u → number ≡ length yielded → length (lines text) ≤ number
all_told {text} {next} s t u yielded rest yields is steps counted =
    let end = YieldsList-end (YieldsList-from_lines text rest) yielded t yields next u is steps in
    omega (arith, end.1, counted)
