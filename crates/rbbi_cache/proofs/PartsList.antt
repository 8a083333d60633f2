-- The parts of runs, one run after the other.
use Rattle.std.proofs.Common.{◌≡◌, ℕ, zero, suc, ◌+◌, ◌<◌, List, [], ◌∷◌, ◌++◌, length, filter, get_or, take, sym, refl, ap, ◌∙◌, append_assoc}
use Rattle.std.specs.Prelude.{Option}
use Rattle.std.proofs.lemmas.List.{take_more}
use Rattle.std.proofs.lemmas.List.Elements.{filter-append}
use Rattle.rbbi_model.specs.Runs.{Run}
use Rattle.rbbi_cache.specs.Kept.{most_runs}
use Rattle.rbbi_cache.specs.Edits.{left_part, has_entries}
use Rattle.rbbi_cache.specs.inner.Parts.{right_part, all_parts}

-- what is cut off before more is added isn't missed where as much is cut off afterwards
pub cut_before : {X : Type 0} (n : ℕ) (xs ys : List X) → take n (take n xs ++ ys) ≡ take n (xs ++ ys)
cut_before zero xs ys = refl
cut_before (suc n) [] ys = refl
cut_before (suc n) (x ∷ xs) ys = ap (λ l. x ∷ l) (cut_before n xs ys)

module _ (at removed inserted : ℕ) (pair : Option ℕ) where
  parts_join : (runs others : List Run) → all_parts at removed inserted pair (runs ++ others) ≡ all_parts at removed inserted pair runs ++ all_parts at
      removed inserted pair others
  parts_join [] others = refl
  parts_join (run ∷ runs) others = ap (λ l. left_part at run ∷ right_part at removed inserted pair run ∷ l) (parts_join runs others)

  -- the parts of one more run
  pub with_one_more : (former : List Run) (k : ℕ) (run : Run) (kept with_left with_both : List Run) → k < length former → run ≡ get_or former k run →
      kept ≡ take most_runs (filter has_entries (all_parts at removed inserted pair (take k former))) →
      with_left ≡ take most_runs (kept ++ filter has_entries (left_part at run ∷ [])) →
      with_both ≡ take most_runs (with_left ++ filter has_entries (right_part at removed inserted pair run ∷ [])) →
      with_both ≡ take most_runs (filter has_entries (all_parts at removed inserted pair (take (k + 1) former)))
  with_one_more former k run kept with_left with_both short is kept_are left_are both_are =
      let before : List Run = all_parts at removed inserted pair (take k former) in
      let left : Run = left_part at run in
      let right : Run = right_part at removed inserted pair run in
      let has : List Run → List Run = filter has_entries in
      let parts : all_parts at removed inserted pair (take (k + 1) former) ≡ all_parts at removed inserted pair (take k former) ++ left_part at run ∷
      right_part at removed inserted pair run ∷ [] =
      ap (all_parts at removed inserted pair) (take_more former k run short ∙ ap (λ r. take k former ++ r ∷ []) (sym is))
      ∙ parts_join (take k former) (run ∷ []) in
      both_are
      ∙ ap (λ l. take most_runs (l ++ has (right ∷ []))) (left_are ∙ ap (λ l. take most_runs (l ++ has (left ∷ []))) kept_are
      ∙ cut_before most_runs (has before) (has (left ∷ [])))
      ∙ cut_before most_runs (has before ++ has (left ∷ [])) (has (right ∷ []))
      ∙ ap (take most_runs)
      (ap (λ l. l ++ has (right ∷ [])) (sym (filter-append has_entries before (left ∷ [])))
      ∙ sym (filter-append has_entries (before ++ left ∷ []) (right ∷ []))
      ∙ ap has (append_assoc before (left ∷ []) (right ∷ []) ∙ sym parts))
