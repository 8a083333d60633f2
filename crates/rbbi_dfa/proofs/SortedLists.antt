-- Sorting lists of numbers and leaving each once.
use Rattle.std.proofs.Common.{◌≡◌, ℕ, zero, suc, ◌+◌, ◌<◌, ◌≤◌, Bool, true, false, List, [], ◌∷◌, length, map, get_or, refl, ap, sym, ◌∙◌, subst, ◌⊎◌, inl}
use Rattle.std.proofs.Common.{inr, ⊎_elim, arith, nat_eq, slice_index_or, Ordering}
use Rattle.std.specs.declared.cmp.Ordering.TheVariants.{Less, Equal, Greater}
use Rattle.std.specs.Ordering.{nat_cmp, ordering_then, ordering_index, is_lt, is_eq}
use Rattle.std.specs.Cmp.Lexicographic.{slice_cmp, pointwise, on_texts_equal, texts_ties}
use Rattle.std.specs.List.{AllByRecursion, Contains, dedup}
use Rattle.std.specs.List.Sorted.{IsPermutation, IsSorted, IsSortedBy, IsStrictlySortedBy, IsNonDecreasingBy, IsPartitionPoint}
use Rattle.std.proofs.lemmas.Cmp.{nat_list_cmp_total, on_total}
use Rattle.std.proofs.lemmas.Bool.{cases_order, cases_lt, false≢true}
use Rattle.std.proofs.lemmas.Bool.Decides.{nat_tests}
use Rattle.std.proofs.lemmas.List.{length-map, get_or-map}
use Rattle.std.proofs.lemmas.List.Sorted.{Contains-permutation, searchable_from_sorted}
use Rattle.std.proofs.lemmas.List.Kept.{IsStrictlySortedBy-dedup, Any-dedup}
use Rattle.std.proofs.lemmas.Slice.Eq.{bytes_eq-Decides}
use Rattle.rbbi_model.specs.ValidTables.{IsBefore}
use Rattle.rbbi_dfa.specs.inner.Ranks.{AreOrderedLists, AreSorted}
use Rattle.rbbi_dfa.proofs.Merged.{IsBefore-irreflexive, IsBefore-trans}

less_cons : (x y : ℕ) (rest : Ordering) → ordering_then (nat_cmp x y) rest ≡ Less → (x < y) ⊎ ((x ≡ y) × (rest ≡ Less))
less_cons x y rest e =
    ⊎_elim
    (λ (same : x ≡ y). inr (same, less_same same))
    (λ (h : (x < y) ⊎ (y < x)). ⊎_elim (λ (l : x < y). inl l) (λ (g : y < x). absurd (less_greater g)) h)
    (cases_order x y)
  where
    less_same : x ≡ y → rest ≡ Less
    less_same same = let h = e in grind (arith, nat_tests)

    less_greater : y < x → ⊥
    less_greater g = let h = e in grind (arith, nat_tests)

pub IsBefore-from_less : (these those : List ℕ) → slice_cmp nat_cmp these those ≡ Less → IsBefore these those
IsBefore-from_less [] [] e = cc
IsBefore-from_less [] (n ∷ those) e = tt
IsBefore-from_less (m ∷ these) [] e = cc
IsBefore-from_less (m ∷ these) (n ∷ those) e =
    ⊎_elim
    (λ (l : m < n). inl l)
    (λ (h : (m ≡ n) × (slice_cmp nat_cmp these those ≡ Less)). inr (h.0, IsBefore-from_less these those h.1))
    (less_cons m n (slice_cmp nat_cmp these those) e)

module _ {X : Type 0} (f : X → List ℕ) where
  abbrev Cmp : X → X → Ordering
  Cmp x y = slice_cmp nat_cmp (f x) (f y)

  abbrev Same : X → X → Bool
  Same x y = pointwise nat_eq (f x) (f y)

  before_each : (x : X) (xs : List X) (j : ℕ) → AllByRecursion (λ y. Cmp x y ≡ Less) xs → j < length (map f xs) →
      IsBefore (f x) (slice_index_or (map f xs) j [])
  before_each x [] j h k = absurd (omega arith)
  before_each x (y ∷ xs) zero h k = IsBefore-from_less (f x) (f y) h.0
  before_each x (y ∷ xs) (suc j) h k = before_each x xs j h.1 (omega arith)

  in_order : (xs : List X) → IsStrictlySortedBy Cmp xs → (i j : ℕ) → i < j → j < length (map f xs) → IsBefore (slice_index_or (map f xs) i [])
      (slice_index_or (map f xs) j [])
  unfolding IsStrictlySortedBy
  in_order [] h i j l k = absurd (omega arith)
  in_order (x ∷ xs) h i zero l k = absurd (omega arith)
  in_order (x ∷ xs) h zero (suc j) l k = before_each x xs j h.0 (omega arith)
  in_order (x ∷ xs) h (suc i) (suc j) l k = in_order xs h.1 i j (omega arith) (omega arith)

  -- the element at a place
  pub element : (xs : List X) (i : ℕ) → i < length xs → (x : X) × Contains xs x × (f x ≡ slice_index_or (map f xs) i [])
  element [] i h = absurd (omega arith)
  element (x ∷ xs) zero h = (x, (0, omega arith, refl), refl)
  element (x ∷ xs) (suc i) h =
      let found = element xs i (omega arith) in
      let place = found.1 in
      (found.0, (suc place.0, omega (arith, place.1), place.2), found.2)

  pub seen_at : (xs : List X) (k : ℕ) (x : X) (statuses : List ℕ) → k < length xs → get_or xs k x ≡ x → f x ≡ statuses → (k < length (map f xs)) ×
      (get_or (map f xs) k statuses ≡ statuses)
  seen_at [] k x statuses h e s = absurd (omega arith)
  seen_at (y ∷ xs) zero x statuses h e s = (omega arith, ap f e ∙ s)
  seen_at (y ∷ xs) (suc k) x statuses h e s =
      let found = seen_at xs k x statuses (omega arith) e s in
      (omega (arith, found.0), found.1)

  pub AreSorted-from_sort : (lists : List (List ℕ)) (pushed sorted kept : List X) → map f pushed ≡ lists → IsPermutation pushed sorted →
      IsSorted Cmp sorted → kept ≡ dedup Same sorted → AreSorted lists (map f kept)
  AreSorted-from_sort lists pushed sorted kept of_lists moved rises e =
      subst (λ (xs : List X). AreSorted lists (map f xs)) (sym e) (record {
        rising = in_order (dedup Same sorted) (IsStrictlySortedBy-dedup (on_total f nat_list_cmp_total) (λ x y. texts_ties (f x) (f y)) sorted rises);
        all = λ i h.
            let found = element pushed i (omega (arith, ap (λ xs. length xs) of_lists, length-map pushed f)) in
            let kept_one = Any-dedup (on_texts_equal f) sorted found.0 (Contains-permutation pushed sorted found.0 moved found.1) in
            let same : f kept_one.1 ≡ slice_index_or lists i [] =
            sym ((bytes_eq-Decides (f found.0) (f kept_one.1)).0 kept_one.4) ∙ found.2 ∙ ap (λ xs. slice_index_or xs i []) of_lists in
            let place = seen_at (dedup Same sorted) kept_one.0 kept_one.1 (slice_index_or lists i []) kept_one.2 kept_one.3 same in
            (kept_one.0, place.0, place.1);
      })

  -- sorted lists are sorted by comparison
  not_less : (these those : List ℕ) (b : Ordering) → b ≡ slice_cmp nat_cmp those these → IsBefore these those → is_lt b ≡ false
  not_less these those Less e h = absurd (IsBefore-irreflexive these (IsBefore-trans these those these h (IsBefore-from_less those these (sym e))))
  not_less these those Equal e h = refl
  not_less these those Greater e h = refl

  at_map : (xs : List X) (k : ℕ) (d : X) → k < length xs → slice_index_or (map f xs) k [] ≡ f (get_or xs k d)
  at_map xs k d h = get_or-map f xs k d [] h

  sorted_by : (xs : List X) → AreOrderedLists (map f xs) → IsSortedBy (λ x y. is_lt (Cmp x y)) xs
  sorted_by xs rising k d low high =
      let before : IsBefore (f (get_or xs k d)) (f (get_or xs (k + 1) d)) =
      subst (λ (those : List ℕ). IsBefore (f (get_or xs k d)) those) (at_map xs (k + 1) d high)
      (subst (λ (these : List ℕ). IsBefore these (slice_index_or (map f xs) (k + 1) [])) (at_map xs k d (omega arith))
      (rising k (k + 1) (omega arith) (omega (arith, length-map xs f)))) in
      not_less (f (get_or xs k d)) (f (get_or xs (k + 1) d)) (Cmp (get_or xs (k + 1) d) (get_or xs k d)) refl before

  equal_cmp : (x y : X) → f x ≡ f y → is_eq (Cmp x y) ≡ true
  equal_cmp x y e = sym (texts_ties (f x) (f y)) ∙ (bytes_eq-Decides (f x) (f y)).1 e

  -- what a search finds is the list that was searched for
  pub found_is : (xs : List X) (x : X) (place : ℕ) → place < length xs → ((d : X) → Cmp (get_or xs place d) x ≡ Equal) →
      slice_index_or (map f xs) place [] ≡ f x
  found_is xs x place h e =
      at_map xs place x h ∙ (bytes_eq-Decides (f (get_or xs place x)) (f x)).0 (texts_ties (f (get_or xs place x)) (f x) ∙ ap is_eq (e x))

  -- a search for a list that is there finds one
  pub found_some : (xs : List X) (x : X) (i : ℕ) → AreOrderedLists (map f xs) → Contains (map f xs) (f x) →
      (IsNonDecreasingBy (λ y. ordering_index (Cmp y x)) xs → IsPartitionPoint (λ y. Cmp y x ≡ Less) (λ y. Cmp y x ≡ Greater) xs i) → ⊥
  found_some xs x i rising held h =
      let point = h (searchable_from_sorted nat_list_cmp_total f xs (f x) (sorted_by xs rising)) in
      let k = held.0 in
      let k_below : k < length xs = omega (arith, held.1, length-map xs f) in
      let same : f (get_or xs k x) ≡ f x = sym (get_or-map f xs k x (f x) k_below) ∙ held.2 in
      let equal = equal_cmp (get_or xs k x) x same in
      ⊎_elim
      (λ (l : k < i). false≢true (ap is_eq (sym (point.0 k x (omega arith) l)) ∙ equal))
      (λ (g : i ≤ k). false≢true (ap is_eq (sym (point.1 k x g k_below)) ∙ equal))
      (cases_lt k i)
