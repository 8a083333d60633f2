-- How many segments have a value, by the counts of the status lists.
use Rattle.std.proofs.Common.{◌≡◌, ℕ, zero, suc, ◌+◌, ◌<◌, ◌≤◌, Bool, true, cond, eqb, List, [], ◌∷◌, length, map, take, drop, get_or, sum, sym, refl, ap}
use Rattle.std.proofs.Common.{◌∙◌, ⊎_elim, arith, add-one}
use Rattle.std.specs.Prelude.{count_by}
use Rattle.std.proofs.lemmas.Bool.{cases_eq}
use Rattle.std.proofs.lemmas.Bool.Decides.{nat_tests}
use Rattle.std.proofs.lemmas.Grind.{common_steps}
use Rattle.std.proofs.lemmas.List.{take_all, length-map}
use Rattle.std.proofs.lemmas.List.Sums.{sum_by-cons}
use Rattle.rbbi_model.specs.Places.{largest}
use Rattle.rbbi_model.specs.Tables.{Table, statuses_of}
use Rattle.rbbi_model.specs.ValidTables.{IsValidTable}
use Rattle.rbbi_model.specs.Boundaries.{Boundary}
use Rattle.rbbi_model.specs.Searches.{found, next_boundary, table_boundaries}
use Rattle.rbbi_tally.specs.Counts.{count, segment_count, AreCounts}
use Rattle.rbbi_tally.specs.declared.counts.ValueCount.{ValueCount}
use Rattle.rbbi_tally.specs.inner.Segments.{Segment, AreSegments}
use Rattle.rbbi_tally.specs.inner.Counting.{count_of, AreCountsOf, AreListed}
use Rattle.rbbi_tally.specs.inner.Values.{count_below, AreValues}
use Rattle.rbbi_tally.proofs.SegmentLists.{segments_go_on, segments_listed}
use Rattle.rbbi_tally.proofs.Boundaries.{boundaries_are}
use Rattle.rbbi_tally.proofs.Values.{values_exact, values_same}

-- the sum over the first status lists that pass the test
abbrev weighed : (ℕ → Bool) → (ℕ → ℕ) → ℕ → ℕ
weighed test of zero = 0
weighed test of (suc lists) = weighed test of lists + cond (test lists) (of lists) 0

below_weighed : (table : Table) (counts : List ℕ) (value lists : ℕ) →
    count_below table counts lists value ≡ weighed (λ list. eqb (largest (statuses_of table list)) value) (λ list. get_or counts list 0) lists
below_weighed table counts value zero = refl
below_weighed table counts value (suc lists) =
    ap (λ n. n + cond (eqb (largest (statuses_of table lists)) value) (get_or counts lists 0) 0) (below_weighed table counts value lists)

module _ (test : ℕ → Bool) where
  weighed_same : (f g : ℕ → ℕ) (lists : ℕ) → ((list : ℕ) → list < lists → f list ≡ g list) → weighed test f lists ≡ weighed test g lists
  weighed_same f g zero same = refl
  weighed_same f g (suc lists) same =
      grind (arith, nat_tests, weighed_same f g lists (λ list short. same list (omega (arith, short))), same lists (omega arith))

  weighed_none : (lists : ℕ) → weighed test (λ list. 0) lists ≡ 0
  weighed_none zero = refl
  weighed_none (suc lists) = grind (arith, nat_tests, weighed_none lists)

  one_past : (k : ℕ) (g : ℕ → ℕ) (lists : ℕ) → lists ≤ k → weighed test (λ list. cond (eqb k list) 1 0 + g list) lists ≡ weighed test g lists
  one_past k g lists past = weighed_same (λ list. cond (eqb k list) 1 0 + g list) g lists (λ list short. grind (arith, nat_tests))

  -- one more of a list
  one_more : (k : ℕ) (g : ℕ → ℕ) (lists : ℕ) → k < lists →
      weighed test (λ list. cond (eqb k list) 1 0 + g list) lists ≡ cond (test k) 1 0 + weighed test g lists
  one_more k g zero short = absurd (omega (arith, short))
  one_more k g (suc lists) short =
      ⊎_elim
      (λ same. grind (arith, nat_tests, one_past k g lists (omega (arith, same)), ap {B = ℕ} (λ i. cond (test i) 1 0) same))
      (λ before. grind (arith, nat_tests, one_more k g lists (grind arith)))
      (cases_eq k lists)

  -- the counts of segments by list, and the segments
  weighed_segments : (lists : ℕ) (ss : List Segment) → AreListed lists ss → weighed test (count_of ss) lists ≡ count_by (λ s. test s.list) ss
  weighed_segments lists [] listed = weighed_none lists
  weighed_segments lists (s ∷ ss) listed =
      let same = weighed_same (count_of (s ∷ ss)) (λ list. cond (eqb s.list list) 1 0 + count_of ss list) lists
      (λ list short. sum_by-cons (λ t. cond (eqb t.list list) 1 0) s ss) in
      let more = one_more s.list (count_of ss) lists listed.0 in
      omega (arith, weighed_segments lists ss listed.1, sum_by-cons (λ t. cond (test t.list) 1 0) s ss)

count_all : (ss : List Segment) → count_by (λ s. true) ss ≡ length ss
count_all [] = refl
count_all (s ∷ ss) = omega (arith, sum_by-cons (λ (t : Segment). 1) s ss, count_all ss)

sum_weighed : (counts : List ℕ) (lists : ℕ) → lists ≤ length counts → sum (take lists counts) ≡ weighed (λ list. true) (λ list. get_or counts list 0) lists
sum_weighed counts zero within = refl
sum_weighed counts (suc lists) within =
    let short : lists < length counts = omega (arith, within) in
    let e = ap (λ n. sum (take n counts)) (sym (add-one lists)) in
    grind (arith, common_steps, sum_weighed counts lists (omega (arith, within)), e)

module _ (table : Table) (x : List ℕ) where
  -- the boundaries at the ends of segments have the status lists of the segments
  count_ends : (value from to : ℕ) (ss : List Segment) → AreSegments table x from to ss →
      count_by (λ b. eqb (largest b.statuses) value) (map (λ s. next_boundary table x s.at) ss)
      ≡ count_by (λ s. eqb (largest (statuses_of table s.list)) value) ss
  count_ends value from to [] are = refl
  count_ends value from to (s ∷ ss) are =
      let at : s.at ≡ from = ap (λ t. t.at) are.1 in
      let list : s.list ≡ (found table x from).list = ap (λ t. t.list) are.1 in
      let test : ℕ → ℕ = λ i. cond (eqb (largest (statuses_of table i)) value) 1 0 in
      let here = ap {B = ℕ} (λ p. test (found table x p).list) at in
      let bs = sum_by-cons (λ (b : Boundary). cond (eqb (largest b.statuses) value) 1 0) (next_boundary table x s.at)
      (map (λ t. next_boundary table x t.at) ss) in
      omega (arith, here, ap {B = ℕ} test list, sum_by-cons (λ (t : Segment). test t.list) s ss, count_ends value (found table x from).at to ss are.2)

  module _ (valid : IsValidTable table) (ss : List Segment) (are : AreSegments table x 0 (length x) ss) (counts : List ℕ)
      (counted : AreCountsOf (length table.lists) ss counts) where
    pub counted_value : (value : ℕ) → count_below table counts (length table.lists) value ≡ count (table_boundaries table x) value
    counted_value value =
        let lists : ℕ = length table.lists in
        let test : ℕ → Bool = λ list. eqb (largest (statuses_of table list)) value in
        below_weighed table counts value lists
        ∙ weighed_same test (λ list. get_or counts list 0) (count_of ss) lists counted.each
        ∙ weighed_segments test lists ss (segments_listed table x valid 0 (length x) ss are)
        ∙ sym (count_ends value 0 (length x) ss are)
        ∙ ap (λ bs. count_by (λ (b : Boundary). eqb (largest b.statuses) value) (drop 1 bs)) (sym (boundaries_are table x ss are))

    pub value_small : (value : ℕ) → count_below table counts (length table.lists) value ≤ length x
    value_small value =
        let lists : ℕ = length table.lists in
        let test : ℕ → Bool = λ list. eqb (largest (statuses_of table list)) value in
        let below = below_weighed table counts value lists in
        let same = weighed_same test (λ list. get_or counts list 0) (count_of ss) lists counted.each in
        let all = weighed_segments test lists ss (segments_listed table x valid 0 (length x) ss are) in
        omega (arith, count_most test ss, segments_go_on table x 0 (length x) ss are)
      where
        count_most : (test : ℕ → Bool) (ts : List Segment) → count_by (λ s. test s.list) ts ≤ length ts
        count_most test [] = omega arith
        count_most test (t ∷ ts) = grind (arith, nat_tests, sum_by-cons (λ s. cond (test s.list) 1 0) t ts, count_most test ts)

    sum_is : sum counts ≡ length ss
    sum_is =
        let lists : ℕ = length table.lists in
        ap sum (sym (take_all lists counts (omega (arith, counted.all))))
        ∙ sum_weighed counts lists (omega (arith, counted.all))
        ∙ weighed_same (λ list. true) (λ list. get_or counts list 0) (count_of ss) lists counted.each
        ∙ weighed_segments (λ list. true) lists ss (segments_listed table x valid 0 (length x) ss are)
        ∙ count_all ss

    pub counted_all : sum counts ≡ segment_count (table_boundaries table x)
    counted_all =
        omega (arith, sum_is, ap (λ (bs : List Boundary). length bs) (boundaries_are table x ss are), length-map ss (λ s. next_boundary table x s.at))

    pub sum_small : sum counts ≤ length x
    sum_small = omega (arith, sum_is, segments_go_on table x 0 (length x) ss are)

    pub counted_each : (pairs : List ValueCount) → AreValues (count_below table counts (length table.lists)) pairs →
        AreCounts (table_boundaries table x) pairs
    counted_each pairs values =
        let same = values_same (count_below table counts (length table.lists)) (count (table_boundaries table x)) pairs counted_value values in
        record { rising = same.rising; exactly = λ value number. values_exact (count (table_boundaries table x)) pairs value number same }
