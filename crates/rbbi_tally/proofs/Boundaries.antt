-- The boundaries of a text by its segments, and what an edit reads.
use Rattle.std.proofs.Common.{◌≡◌, ℕ, zero, suc, ◌≤◌, Bool, true, false, ltb, List, [], ◌∷◌, ◌++◌, Some, append-nil, length, map, sym, refl, ap, ◌∙◌, arith}
use Rattle.std.specs.Prelude.{filter, sum_by}
use Rattle.std.specs.List.{AllByRecursion}
use Rattle.std.proofs.lemmas.Bool.{cond-true, cond-false, false≢true, lt-ltb}
use Rattle.std.proofs.lemmas.Bool.Decides.{nat_tests}
use Rattle.std.proofs.lemmas.List.Elements.{filter-append}
use Rattle.std.proofs.lemmas.List.Sums.{sum_by-cons}
use Rattle.rbbi_model.specs.Lists.{Member}
use Rattle.rbbi_model.specs.Tables.{Table}
use Rattle.rbbi_model.specs.Boundaries.{Boundary, start}
use Rattle.rbbi_model.specs.Cover.{places}
use Rattle.rbbi_model.specs.Searches.{found, next_boundary, follow_by, table_boundaries}
use Rattle.rbbi_model.specs.Answers.{first_place, is_place_of}
use Rattle.rbbi_tally.specs.inner.Segments.{Segment, AreSegments}
use Rattle.rbbi_tally.specs.inner.Searching.{places_to}
use Rattle.rbbi_tally.proofs.SegmentLists.{segments_go_on}

module _ (table : Table) (x : List ℕ) where
  -- the boundaries at the ends of the segments
  ends_of : List Segment → List Boundary
  ends_of segments = map (λ segment. next_boundary table x segment.at) segments

  ends_follow : (most : ℕ) (last : Boundary) (segments : List Segment) → AreSegments table x last.at (length x) segments → length segments ≤ most →
      follow_by (next_boundary table x) (length x) most last ≡ ends_of segments
  unfolding ends_of
  ends_follow zero last [] are few = refl
  ends_follow zero last (s ∷ segments) are few = absurd (omega (arith, few))
  ends_follow (suc most) last [] are few = grind (arith, nat_tests)
  ends_follow (suc most) last (s ∷ segments) are few =
      let next : Boundary = next_boundary table x last.at in
      let here : s.at ≡ last.at = ap (λ t. t.at) are.1 in
      cond-true (ltb last.at (length x)) (next ∷ follow_by (next_boundary table x) (length x) most next) [] (lt-ltb last.at (length x) are.0)
      ∙ ap (λ l. next ∷ l) (ends_follow most next segments are.2 (omega (arith, few)))
      ∙ ap (λ p. next_boundary table x p ∷ map (λ segment. next_boundary table x segment.at) segments) (sym here)

  pub boundaries_are : (segments : List Segment) → AreSegments table x 0 (length x) segments →
      table_boundaries table x ≡ start ∷ map (λ segment. next_boundary table x segment.at) segments
  unfolding ends_of
  boundaries_are segments are =
      ap (λ l. start ∷ l) (ends_follow (length x) start segments are (omega (arith, segments_go_on table x 0 (length x) segments are)))

  places_follow : (from to : ℕ) (segments : List Segment) → AreSegments table x from to segments →
      from ∷ map (λ segment. (next_boundary table x segment.at).at) segments ≡ places_to segments to
  places_follow from to [] are = ap (λ p. p ∷ []) are
  places_follow from to (s ∷ segments) are =
      let here : from ≡ s.at = sym (ap (λ t. t.at) are.1) in
      let rest = places_follow (found table x from).at to segments are.2 in
      let others : List ℕ = map (λ segment. (next_boundary table x segment.at).at) segments in
      ap (λ p. from ∷ (found table x p).at ∷ others) (sym here)
      ∙ ap (λ p. p ∷ (found table x from).at ∷ others) here
      ∙ ap (λ l. s.at ∷ l) rest

  places_of_ends : (segments : List Segment) → places (map (λ segment. next_boundary table x segment.at) segments) ≡
      map (λ segment. (next_boundary table x segment.at).at) segments
  places_of_ends [] = refl
  places_of_ends (s ∷ segments) = ap (λ l. (next_boundary table x s.at).at ∷ l) (places_of_ends segments)

  -- the places of the boundaries
  pub boundary_places : (segments : List Segment) → AreSegments table x 0 (length x) segments →
      places (table_boundaries table x) ≡ places_to segments (length x)
  boundary_places segments are =
      ap places (boundaries_are segments are) ∙ ap (λ l. 0 ∷ l) (places_of_ends segments) ∙ places_follow 0 (length x) segments are

-- the first place of a list that passes the test
pub first_passes : (test : ℕ → Bool) (bs : List Boundary) (before : List ℕ) (p : ℕ) (after : List ℕ) → places bs ≡ before ++ p ∷ after →
    AllByRecursion (λ q. test q ≡ false) before → test p ≡ true → first_place test bs ≡ Some p
first_passes test [] [] p after is fails passes = grind arith
first_passes test [] (q ∷ before) p after is fails passes = grind arith
first_passes test (b ∷ bs) [] p after is fails passes = grind arith
first_passes test (b ∷ bs) (q ∷ before) p after is fails passes =
    let rest : places bs ≡ before ++ p ∷ after = cc in grind (arith, first_passes test bs before p after rest fails.1 passes, fails.0)

-- a sum over the boundaries at certain places is one over these places
pub sum_at_places : (f : ℕ → ℕ) (p : ℕ → Bool) (bs : List Boundary) →
    sum_by (λ b. f b.at) (filter (λ b. p b.at) bs) ≡ sum_by f (filter p (places bs))
sum_at_places f p [] = refl
sum_at_places f p (b ∷ bs) =
    grind (arith, sum_by-cons (λ b. f b.at) b (filter (λ b. p b.at) bs), sum_by-cons f b.at (filter p (places bs)), sum_at_places f p bs)

pub filter_none : (p : ℕ → Bool) (ns : List ℕ) → AllByRecursion (λ n. p n ≡ false) ns → filter p ns ≡ []
filter_none p [] none = refl
filter_none p (n ∷ ns) none = cond-false (p n) (n ∷ filter p ns) (filter p ns) none.0 ∙ filter_none p ns none.1

pub filter_all : (p : ℕ → Bool) (ns : List ℕ) → AllByRecursion (λ n. p n ≡ true) ns → filter p ns ≡ ns
filter_all p [] all = refl
filter_all p (n ∷ ns) all = cond-true (p n) (n ∷ filter p ns) (filter p ns) all.0 ∙ ap (λ l. n ∷ l) (filter_all p ns all.1)

-- the sum of a part of the places
pub sum_of_part : (f : ℕ → ℕ) (p : ℕ → Bool) (bs : List Boundary) (before part after : List ℕ) → places bs ≡ before ++ (part ++ after) →
    AllByRecursion (λ n. p n ≡ false) before → AllByRecursion (λ n. p n ≡ true) part → AllByRecursion (λ n. p n ≡ false) after →
    sum_by (λ b. f b.at) (filter (λ b. p b.at) bs) ≡ sum_by f part
sum_of_part f p bs before part after is none all none' =
    sum_at_places f p bs
    ∙ ap (λ l. sum_by f (filter p l)) is
    ∙ ap (λ l. sum_by f l) (filter-append p before (part ++ after))
    ∙ ap (λ l. sum_by f (l ++ filter p (part ++ after))) (filter_none p before none)
    ∙ ap (λ l. sum_by f l) (filter-append p part after)
    ∙ ap (λ l. sum_by f (filter p part ++ l)) (filter_none p after none')
    ∙ ap (λ l. sum_by f l) (append-nil (filter p part))
    ∙ ap (λ l. sum_by f l) (filter_all p part all)

pub sum_of_reads : (f : ℕ → ℕ) (segments : List Segment) → sum_by (λ segment. f segment.at) segments ≡ sum_by f (map (λ segment. segment.at) segments)
sum_of_reads f [] = refl
sum_of_reads f (s ∷ segments) =
    grind (arith, sum_by-cons (λ segment. f segment.at) s segments, sum_of_reads f segments, sum_by-cons f s.at (map (λ segment. segment.at) segments))

-- what holds of each segment's place holds of each place
pub places_all : (P : ℕ → Type 0) (segments : List Segment) → AllByRecursion (λ segment. P segment.at) segments →
    AllByRecursion P (map (λ segment. segment.at) segments)
places_all P [] all = tt
places_all P (s ∷ segments) all = (all.0, places_all P segments all.1)

-- a place is told to be one exactly where it is
pub place_is_member : (bs : List Boundary) (p : ℕ) → is_place_of bs p ≡ true → Member (places bs) p
place_is_member [] p is = absurd (false≢true is)
place_is_member (b ∷ bs) p is = grind (arith, nat_tests, place_is_member bs p)

pub member_is_place : (bs : List Boundary) (p : ℕ) → Member (places bs) p → is_place_of bs p ≡ true
member_is_place [] p is = absurd is
member_is_place (b ∷ bs) p is = grind (arith, nat_tests, member_is_place bs p)
