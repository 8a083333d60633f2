-- The kept runs as the first of the slots.
use Rattle.std.proofs.Common.{◌≡◌, ◌≢◌, ℕ, zero, suc, ◌+◌, ◌<◌, ◌≤◌, List, [], ◌∷◌, ◌++◌, length, length-append, length-take, take}
use Rattle.std.proofs.Common.{drop, get_or, sym, refl, ap, ◌∙◌, ⊎_elim, append_assoc, arith}
use Rattle.std.specs.Prelude.{min, slice_set}
use Rattle.std.proofs.lemmas.List.{take-append-drop, take_all, take-take}
use Rattle.std.proofs.lemmas.Bool.{cases_lt}
use Rattle.std.proofs.Math.Seq.{take-append_seam, set-append_seam}
use Rattle.rbbi_model.specs.Runs.{Run}

-- the first so many of a list that begins with so many
pub first_of_joined : (xs rest : List Run) (count : ℕ) → length xs ≡ count → take count (xs ++ rest) ≡ xs
first_of_joined xs rest count is = ap (λ n. take n (xs ++ rest)) (sym is) ∙ take-append_seam xs rest

module _ (items : List Run) (count : ℕ) (within : count ≤ length items) (now before : List Run) (run : Run) (after : List Run) (view : take count items ≡ now)
    (whole : now ≡ before ++ run ∷ after) where
  pub count_is : count ≡ length before + (length after + 1)
  count_is = omega (arith, ap length (view ∙ whole), length-take count items, length-append before (run ∷ after))

  pub slots_are : items ≡ before ++ run ∷ (after ++ drop count items)
  slots_are = sym (take-append-drop count items) ∙ ap (λ l. l ++ drop count items) (view ∙ whole) ∙ append_assoc before (run ∷ after) (drop count items)

  pub moved_is : (moved : List Run) → moved ≡ run ∷ (before ++ (after ++ drop count items)) → take count moved ≡ run ∷ (before ++ after)
  moved_is moved is =
      ap (take count) (is ∙ ap (λ l. run ∷ l) (sym (append_assoc before after (drop count items))))
      ∙ first_of_joined (run ∷ (before ++ after)) (drop count items) count (omega (arith, count_is, length-append before after))

  module _ (k : ℕ) (number : length before ≡ k) where
    pub below : k < count
    below = omega (arith, count_is)

    pub written_is : (other : Run) → take count (slice_set items k other) ≡ before ++ other ∷ after
    written_is other =
        ap (take count)
        (ap (λ l. slice_set l k other) slots_are
        ∙ ap (λ n. slice_set (before ++ run ∷ (after ++ drop count items)) n other) (sym number)
        ∙ set-append_seam before run (after ++ drop count items) other
        ∙ sym (append_assoc before (other ∷ after) (drop count items)))
        ∙ first_of_joined (before ++ other ∷ after) (drop count items) count (omega (arith, count_is, length-append before (other ∷ after)))

    pub read_is : (d : Run) → get_or items k d ≡ run
    read_is d = ap (λ l. get_or l k d) slots_are ∙ ap (λ n. get_or (before ++ run ∷ (after ++ drop count items)) n d) (sym number) ∙ at_seam before
      where
        at_seam : (front : List Run) → get_or (front ++ run ∷ (after ++ drop count items)) (length front) d ≡ run
        at_seam [] = refl
        at_seam (r ∷ front) = at_seam front

-- the first slot has the first run
pub first_is : (items : List Run) (count : ℕ) → count ≢ 0 → count ≤ length items → (d : Run) → (rest : List Run) × (take count items ≡ get_or items 0 d ∷ rest)
first_is [] count some within d = absurd (some (omega arith))
first_is (r ∷ items) zero some within d = absurd (some refl)
first_is (r ∷ items) (suc n) some within d = (take n items, refl)

-- a new run stands before the first 15 of the others
pub added_is : (items : List Run) (count : ℕ) → length items ≡ 16 → count ≤ 16 → (now slots : List Run) (run : Run) (kept : ℕ) → take count items ≡ now → take
    kept slots ≡ run ∷ take (min count 15) items → take kept slots ≡ run ∷ take 15 now
added_is items count full few now slots run kept view is =
    is ∙ ap (λ l. run ∷ l) (taken ∙ ap (take 15) view)
  where
    taken : take (min count 15) items ≡ take 15 (take count items)
    taken =
        ⊎_elim
        (λ less. ap (λ n. take n items) (small less) ∙ sym (take_all 15 (take count items) (omega (arith, length-take count items))))
        (λ more. ap (λ n. take n items) (large more) ∙ sym (take-take 15 count items more))
        (cases_lt count 15)
      where
        small : count < 15 → min count 15 ≡ count
        small less = omega arith

        large : 15 ≤ count → min count 15 ≡ 15
        large more = omega arith
