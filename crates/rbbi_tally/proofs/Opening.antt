-- The segments of a whole text: that there are some, and what the searches for them read.
use Rattle.std.proofs.Common.{◌≡◌, ℕ, zero, suc, ◌+◌, ◌<◌, ◌≤◌, List, [], ◌∷◌, ◌++◌, length, map, take, drop, get_or, sym, refl, ap, ◌∙◌, ⊎_elim, arith}
use Rattle.std.proofs.Math.Seq.{take-append_seam}
use Rattle.std.specs.Prelude.{sum_by}
use Rattle.std.proofs.lemmas.Bool.{cases_lt}
use Rattle.std.proofs.lemmas.Bool.Decides.{nat_tests}
use Rattle.std.proofs.lemmas.List.Sums.{sum_by-cons, sum_by-append}
use Rattle.rbbi_model.specs.Tables.{Table}
use Rattle.rbbi_model.specs.Boundaries.{Boundary}
use Rattle.rbbi_model.specs.Cover.{places}
use Rattle.rbbi_model.specs.Searches.{found, table_boundaries}
use Rattle.rbbi_model.specs.Costs.{characters_read}
use Rattle.rbbi_model.proofs.Found.{found_lies}
use Rattle.rbbi_tally.specs.Costs.{opening_cost}
use Rattle.rbbi_tally.specs.inner.Segments.{Segment, segment_at, AreSegments}
use Rattle.rbbi_tally.specs.inner.Counting.{AreCountsOf, IsRecounted}
use Rattle.rbbi_tally.specs.inner.Searching.{reads_of}
use Rattle.rbbi_tally.proofs.SegmentLists.{segments_joined, segments_go_on}
use Rattle.rbbi_tally.proofs.Boundaries.{boundary_places, sum_of_reads}
use Rattle.rbbi_tally.proofs.Counted.{count_few, count-append}

-- a sum over boundaries is one over their places
sum_of_places : (f : ℕ → ℕ) (bs : List Boundary) → sum_by (λ b. f b.at) bs ≡ sum_by f (places bs)
sum_of_places f [] = refl
sum_of_places f (b ∷ bs) = grind (arith, sum_by-cons (λ b. f b.at) b bs, sum_of_places f bs, sum_by-cons f b.at (places bs))

module _ (table : Table) (x : List ℕ) where
  pub segments_exist : (fuel from : ℕ) → from ≤ length x → length x ≤ from + fuel → (ss : List Segment) × AreSegments table x from (length x) ss
  segments_exist zero from within enough = ([], omega arith)
  segments_exist (suc fuel) from within enough =
      ⊎_elim
      (λ short.
      let lies = found_lies table x from short in
      let rest = segments_exist fuel (found table x from).at lies.1 (omega (arith, lies.0)) in
      (segment_at table x from ∷ rest.0, (short, refl, rest.1)))
      (λ past. ([], omega arith))
      (cases_lt from (length x))

  nothing_at_end : characters_read table x (length x) ≡ 0
  nothing_at_end = grind (arith, nat_tests)

  pub opening_is : (ss : List Segment) → AreSegments table x 0 (length x) ss → opening_cost table x ≡ reads_of table x ss
  opening_is ss are =
      let f : ℕ → ℕ = λ y. characters_read table x y in
      let parts = sum_by-append f (map (λ s. s.at) ss) (length x ∷ []) in
      let all = ap (λ ns. sum_by f ns) (boundary_places table x ss are) in
      omega (arith, sum_of_places f (table_boundaries table x), sum_by-cons f (length x) [], sum_of_reads f ss, nothing_at_end)

  -- the searches from the first boundaries read at most as much
  pub reads_up_to : (place : ℕ) (ss : List Segment) → AreSegments table x 0 place ss → place ≤ length x → reads_of table x ss ≤ opening_cost table x
  reads_up_to place ss are within =
      let rest = segments_exist (length x) place within (omega arith) in
      let all = opening_is (ss ++ rest.0) (segments_joined table x 0 place (length x) ss rest.0 are rest.1) in
      omega (arith, sum_by-append (λ s. characters_read table x s.at) ss rest.0)

  -- no list has more segments than there are places
  pub counts_few : (lists place : ℕ) (ss : List Segment) (counts : List ℕ) → AreSegments table x 0 place ss → AreCountsOf lists ss counts →
      (list : ℕ) → list < length counts → get_or counts list 0 ≤ place
  counts_few lists place ss counts are counted list short =
      let short' : list < lists = omega (arith, counted.all) in
      omega (arith, counted.each list short', count_few ss list, segments_go_on table x 0 place ss are)

pub counts_more : (lists : ℕ) (ss new : List Segment) (before after : List ℕ) → AreCountsOf lists ss before → IsRecounted [] new before after →
    AreCountsOf lists (ss ++ new) after
counts_more lists ss new before after are recounted = record {
  all = recounted.all ∙ are.all;
  each = λ list short.
      let short' : list < length before = omega (arith, are.all) in
      omega (arith, are.each list short, recounted.each list short', count-append ss new list);
}

-- counts that are written back
pub refilled : (ns items : List ℕ) (len : ℕ) → len ≡ length items → length ns ≡ length items → take len (ns ++ drop (length ns) items) ≡ ns
refilled ns items len all same =
    ap (λ n. take n (ns ++ drop (length ns) items)) (all ∙ sym same) ∙ take-append_seam ns (drop (length ns) items)
