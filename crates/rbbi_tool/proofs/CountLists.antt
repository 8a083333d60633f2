-- The values that some segment has, with their counts: they are listed, and in one way alone.
use Rattle.std.proofs.Common.{◌≡◌, ℕ, zero, suc, ◌<◌, ◌≤◌, List, [], ◌∷◌, ◌++◌, map, get_or, sym, refl, ap, ◌∙◌, subst, inl, inr, ⊎_elim}
use Rattle.std.proofs.Common.{arith, append-nil, eqb, cond, false}
use Rattle.std.specs.Prelude.{Contains, count_by}
use Rattle.std.specs.List.{AllByRecursion}
use Rattle.std.proofs.lemmas.Bool.{cond_both, cases_Bool, cond-false, eqb-true, eqb-false, ne_eqb}
use Rattle.std.proofs.lemmas.List.Sums.{sum_by-cons}
use Rattle.std.proofs.lemmas.List.Elements.{Contains-append_left, Contains-push, Contains-push_cases, Contains-get_or}
use Rattle.rbbi_model.specs.Places.{largest}
use Rattle.rbbi_model.specs.Lists.{Member, IsRising}
use Rattle.rbbi_model.specs.Boundaries.{Boundary}
use Rattle.rbbi_model.proofs.Lists.{all_append, all_by_index, all_through}
use Rattle.rbbi_model.proofs.Rising.{rising_same}
use Rattle.rbbi_tally.specs.declared.counts.ValueCount.{ValueCount}
use Rattle.rbbi_tally.specs.Counts.{count, AreCounts}
use Rattle.rbbi_tool.specs.inner.Tallying.{counts_below, largest_of, counts_of}

-- one more pair behind those of smaller values
rising_push : (pairs : List ValueCount) (p : ValueCount) → IsRising (map (λ q. q.value) pairs) → AllByRecursion (λ q. q.value < p.value) pairs →
    IsRising (map (λ q. q.value) (pairs ++ p ∷ []))
rising_push [] p rise less = tt
rising_push (q ∷ []) p rise less = (less.0, tt)
rising_push (q ∷ r ∷ pairs) p rise less = (rise.0, rising_push (r ∷ pairs) p rise.1 less.1)

-- a pair stands among others: its value among theirs
contained_value : (pairs : List ValueCount) (p : ValueCount) → Contains pairs p → Member (map (λ q. q.value) pairs) p.value
contained_value [] p (i, short, is) = absurd (omega (arith, short))
contained_value (q ∷ pairs) p (zero, short, is) = inl (ap (λ (r : ValueCount). r.value) is)
contained_value (q ∷ pairs) p (suc i, short, is) = inr (contained_value pairs p (i, omega (arith, short), is))

module _ (f : ℕ → ℕ) where
  abbrev at : ℕ → ValueCount
  at value = record { value = value; count = f value }

  below_less : (n : ℕ) → AllByRecursion (λ q. q.value < n) (counts_below f n)
  below_less zero = tt
  below_less (suc n) =
      all_append (λ (q : ValueCount). q.value < suc n) (counts_below f n) (cond (eqb (f n) 0) [] (at n ∷ []))
      (all_through (λ (q : ValueCount). q.value < n) (λ q. q.value < suc n) (λ q less. omega (arith, less)) (counts_below f n) (below_less n))
      (cond_both (eqb (f n) 0) [] (at n ∷ []) (AllByRecursion (λ q. q.value < suc n)) (λ _. tt) (λ _. (omega arith, tt)))

  below_rise : (n : ℕ) → IsRising (map (λ q. q.value) (counts_below f n))
  below_rise zero = tt
  below_rise (suc n) =
      cond_both (eqb (f n) 0) [] (at n ∷ []) (λ l. IsRising (map (λ q. q.value) (counts_below f n ++ l)))
      (λ _. subst (λ l. IsRising (map (λ q. q.value) l)) (sym (append-nil (counts_below f n))) (below_rise n))
      (λ _. rising_push (counts_below f n) (at n) (below_rise n) (below_less n))

  -- each pair has the count of its value, which isn't 0
  below_exact : (n value number : ℕ) → Contains (counts_below f n) (record { value = value; count = number }) → (f value ≡ number) × (0 < number)
  below_exact zero value number (i, short, is) = absurd (omega (arith, short))
  below_exact (suc n) value number has =
      let p : ValueCount = record { value = value; count = number } in
      cond_both (eqb (f n) 0) [] (at n ∷ []) (λ l. Contains (counts_below f n ++ l) p → (f value ≡ number) × (0 < number))
      (λ _ among. below_exact n value number (subst (λ l. Contains l p) (append-nil (counts_below f n)) among))
      (λ some among.
      ⊎_elim (below_exact n value number)
      (λ is.
      let same : n ≡ value = ap (λ (q : ValueCount). q.value) is in
      let counted : f n ≡ number = ap (λ (q : ValueCount). q.count) is in
      let positive = eqb-false (f n) 0 some in
      (ap f (sym same) ∙ counted, (let is_some : 0 < f n = omega (arith, positive) in omega arith)))
      (Contains-push_cases (counts_below f n) (at n) p among))
      has

  -- and each value below with a count is there
  below_has : (n value : ℕ) → value < n → 0 < f value → Contains (counts_below f n) (at value)
  below_has zero value less some = absurd (omega arith)
  below_has (suc n) value less some =
      ⊎_elim
      (λ here.
      let same : n ≡ value = eqb-true n value here in
      let none : eqb (f n) 0 ≡ false = ne_eqb (f n) 0 (λ is. let counted = ap f same in absurd (omega (arith, some))) in
      subst (λ l. Contains (counts_below f n ++ l) (at value)) (sym (cond-false (eqb (f n) 0) [] (at n ∷ []) none))
      (subst (λ v. Contains (counts_below f n ++ at n ∷ []) (at v)) same (Contains-push (counts_below f n) (at n))))
      (λ other.
      Contains-append_left (counts_below f n) (cond (eqb (f n) 0) [] (at n ∷ [])) (at value)
      (below_has n value (let differ = eqb-false n value other in omega arith) some))
      (cases_Bool (eqb n value))

  -- pairs that have the counts of their values are told by the values
  told_by_values : (pairs : List ValueCount) → AllByRecursion (λ q. f q.value ≡ q.count) pairs → map at (map (λ q. q.value) pairs) ≡ pairs
  told_by_values [] are = refl
  told_by_values (q ∷ pairs) are =
      ap (λ n. record { value = q.value; count = n } ∷ map at (map (λ r. r.value) pairs)) are.0 ∙ ap (λ l. q ∷ l) (told_by_values pairs are.1)

  valued : (pairs : List ValueCount) (k : ℕ) → AllByRecursion (λ q. 0 < f q.value) pairs → Member (map (λ q. q.value) pairs) k → 0 < f k
  valued [] k are here = absurd here
  valued (q ∷ pairs) k are here = ⊎_elim (λ is. subst (λ v. 0 < f v) is are.0) (valued pairs k are.1) here

-- a value of some boundary is no larger than the largest
value_within : (boundaries : List Boundary) (value : ℕ) → 0 < count_by (λ b. eqb (largest b.statuses) value) boundaries → value ≤ largest_of boundaries
value_within [] value some = absurd (omega (arith, some))
value_within (b ∷ boundaries) value some =
    ⊎_elim
    (λ here. omega (arith, eqb-true (largest b.statuses) value here))
    (λ other.
    let later = value_within boundaries value
    (omega (
      arith,
      some,
      sum_by-cons (λ (c : Boundary). cond (eqb (largest c.statuses) value) 1 0) b boundaries,
      cond-false {A = ℕ} (eqb (largest b.statuses) value) 1 0 other,
    )) in
    omega arith)
    (cases_Bool (eqb (largest b.statuses) value))

counted_within : (boundaries : List Boundary) (value : ℕ) → 0 < count boundaries value → value < suc (largest_of boundaries)
counted_within [] value some = absurd (omega (arith, some))
counted_within (b ∷ boundaries) value some = let later = value_within boundaries value some in omega arith

pub counts_are : (boundaries : List Boundary) → AreCounts boundaries (counts_of boundaries)
unfolding counts_of
counts_are boundaries = record {
  rising = below_rise (count boundaries) (suc (largest_of boundaries));
  exactly = λ value number. (
    below_exact (count boundaries) (suc (largest_of boundaries)) value number,
    λ (is, some).
        let positive : 0 < count boundaries value = omega (arith, is, some) in
        subst (λ n. Contains (counts_of boundaries) (record { value = value; count = n })) is
        (below_has (count boundaries) (suc (largest_of boundaries)) value (counted_within boundaries value positive) positive),
  );
}

-- each pair of such a list
each_is : (boundaries : List Boundary) (pairs : List ValueCount) → AreCounts boundaries pairs →
    AllByRecursion (λ q. (count boundaries q.value ≡ q.count) × (0 < q.count)) pairs
each_is boundaries pairs are =
    let none : ValueCount = record { value = 0; count = 0 } in
    all_by_index (λ (q : ValueCount). (count boundaries q.value ≡ q.count) × (0 < q.count)) none pairs
    (λ i short. let q : ValueCount = get_or pairs i none in (are.exactly q.value q.count).0 (Contains-get_or pairs i none short))

pub same_counts : (boundaries : List Boundary) (these those : List ValueCount) → AreCounts boundaries these → AreCounts boundaries those → these ≡ those
same_counts boundaries these those are are' =
    let f : ℕ → ℕ = count boundaries in
    let values : map (λ q. q.value) these ≡ map (λ q. q.value) those =
    rising_same _ _ are.rising are'.rising (values_among these those are are') (values_among those these are' are) in
    sym (told_by_values f these (exact these are)) ∙ ap (map (at f)) values ∙ told_by_values f those (exact those are')
  where
    exact : (pairs : List ValueCount) → AreCounts boundaries pairs → AllByRecursion (λ q. count boundaries q.value ≡ q.count) pairs
    exact pairs are =
        all_through (λ (q : ValueCount). (count boundaries q.value ≡ q.count) × (0 < q.count)) (λ q. count boundaries q.value ≡ q.count) (λ q is. is.0) pairs
        (each_is boundaries pairs are)

    values_among : (pairs others : List ValueCount) → AreCounts boundaries pairs → AreCounts boundaries others → (k : ℕ) →
        Member (map (λ q. q.value) pairs) k → Member (map (λ q. q.value) others) k
    values_among pairs others are are' k here =
        let positive = valued (count boundaries) pairs k
        (all_through (λ (q : ValueCount). (count boundaries q.value ≡ q.count) × (0 < q.count)) (λ q. 0 < count boundaries q.value)
        (λ q is. omega (arith, is.0, is.1)) pairs (each_is boundaries pairs are)) here in
        contained_value others (at (count boundaries) k) ((are'.exactly k (count boundaries k)).1 (refl, positive))
