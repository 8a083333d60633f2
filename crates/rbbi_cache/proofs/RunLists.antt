-- Runs at their places in a list.
use Rattle.std.proofs.Common.{◌≡◌, ℕ, suc, ◌+◌, ◌-◌, ◌<◌, List, [], ◌∷◌, ◌++◌, length, length-append, length-take, take, drop, get_or, sym, ap, ◌∙◌, subst}
use Rattle.std.proofs.Common.{refl, append_assoc, arith}
use Rattle.std.specs.List.{AllByRecursion, slice_get}
use Rattle.std.proofs.lemmas.List.{take-append-drop, take_more}
use Rattle.std.proofs.Math.Seq.{drop-cons, take-append_seam, drop-append_seam}
use Rattle.std.specs.Prelude.{Option, Some, None, MatchOption, ⊤, unwrap_or}
use Rattle.rbbi_model.specs.Runs.{Entry, Run}
use Rattle.rbbi_cache.specs.Shown.{IsShownBefore}
use Rattle.rbbi_model.proofs.Lists.{all_append}
use Rattle.rbbi_cache.specs.inner.Lists.{HasAt}

pub has_at : (P : Run → Type 0) (runs : List Run) (k : ℕ) (run : Run) → k < length runs → run ≡ get_or runs k run → P run → HasAt runs k P
has_at P runs k run short is such = record {
  before = take k runs;
  run = run;
  after = drop (suc k) runs;
  whole = sym (take-append-drop k runs) ∙ ap (λ l. take k runs ++ l) (drop-cons runs k run short ∙ ap (λ r. r ∷ drop (suc k) runs) (sym is));
  number = omega (arith, length-take k runs);
  such = such;
}

-- what the first run shows before a place stands at the front
pub front_shows : (runs : List Run) (run : Run) → Some run ≡ slice_get runs 0 → (i : ℕ) (found : Option Entry) →
    MatchOption found ⊤ (λ entry. (x : List ℕ) → IsShownBefore x run i entry) →
    MatchOption found ⊤ (λ entry. (x : List ℕ) → HasAt runs 0 (λ r. IsShownBefore x r i entry))
front_shows runs run first i None shown = shown
front_shows [] run first i (Some entry) shown = absurd (no_first first)
  where
    no_first : Some run ≡ None → ⊥
    no_first same = cc
front_shows (other ∷ runs) run first i (Some entry) shown = λ x.
    let same : run ≡ other = ap (λ (o : Option Run). unwrap_or o run) first in
    record { before = []; run = other; after = runs; whole = refl; number = refl; such = subst (λ r. IsShownBefore x r i entry) same (shown x) }

pub one_more : (P : Run → Type 0) (runs : List Run) (k : ℕ) (run : Run) → k < length runs → run ≡ get_or runs k run → AllByRecursion P (take k runs) →
    P run → AllByRecursion P (take (k + 1) runs)
one_more P runs k run short is each such =
    subst (λ l. AllByRecursion P l) (sym (take_more runs k run short ∙ ap (λ r. take k runs ++ r ∷ []) (sym is)))
    (all_append P (take k runs) (run ∷ []) each (such, tt))

pub rotated : (runs before after : List Run) (run : Run) (k : ℕ) (first : List Run) → runs ≡ before ++ run ∷ after → length before ≡ k →
    first ≡ drop (length (take (k + 1) runs) - 1) (take (k + 1) runs) ++ take (length (take (k + 1) runs) - 1) (take (k + 1) runs) →
    first ++ drop (k + 1) runs ≡ run ∷ (before ++ after)
rotated runs before after run k first whole number is =
    let size : length (before ++ run ∷ []) ≡ k + 1 = omega (arith, length-append before (run ∷ [])) in
    let split : runs ≡ (before ++ run ∷ []) ++ after = whole ∙ sym (append_assoc before (run ∷ []) after) in
    let front : take (k + 1) runs ≡ before ++ run ∷ [] = ap (take (k + 1)) split ∙ ap (λ n. take n ((before ++ run ∷ []) ++ after)) (sym size)
    ∙ take-append_seam (before ++ run ∷ []) after in
    let back : drop (k + 1) runs ≡ after = ap (drop (k + 1)) split ∙ ap (λ n. drop n ((before ++ run ∷ []) ++ after)) (sym size)
    ∙ drop-append_seam (before ++ run ∷ []) after in
    let less : length (before ++ run ∷ []) - 1 ≡ length before = omega (arith, size, number) in
    let turned : first ≡ run ∷ before =
    is
    ∙ ap (λ l. drop (length l - 1) l ++ take (length l - 1) l) front
    ∙ ap (λ n. drop n (before ++ run ∷ []) ++ take n (before ++ run ∷ [])) less
    ∙ ap (λ l. l ++ take (length before) (before ++ run ∷ [])) (drop-append_seam before (run ∷ []))
    ∙ ap (λ l. run ∷ l) (take-append_seam before (run ∷ [])) in
    ap (λ l. l ++ drop (k + 1) runs) turned ∙ ap (λ l. (run ∷ before) ++ l) back

-- a run with number 0 is the first
pub at_front : (before after : List Run) (run : Run) → length before ≡ 0 → before ++ run ∷ after ≡ run ∷ (before ++ after)
at_front [] after run none = refl
at_front (r ∷ before) after run none = absurd (omega arith)
