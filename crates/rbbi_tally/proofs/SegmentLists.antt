-- Segments from one boundary to another: parts and wholes, places and look ends.
use Rattle.std.proofs.Common.{◌≡◌, ℕ, ◌+◌, ◌<◌, ◌≤◌, List, [], ◌∷◌, ◌++◌, length, sym, refl, ap, subst, arith}
use Rattle.std.specs.List.{AllByRecursion}
use Rattle.rbbi_model.specs.Lists.{IsRising}
use Rattle.rbbi_model.specs.Tables.{Table}
use Rattle.rbbi_model.specs.ValidTables.{IsValidTable}
use Rattle.rbbi_model.specs.Searches.{look_end, found}
use Rattle.rbbi_model.proofs.Found.{found_lies, look_lies}
use Rattle.rbbi_model.proofs.FoundCases.{found_up_to}
use Rattle.rbbi_cache.proofs.Texts.{end_by_look}
use Rattle.rbbi_session.proofs.Reaching.{found_within}
use Rattle.rbbi_tally.specs.inner.Segments.{Segment, segment_at, AreSegments, place_of}
use Rattle.rbbi_tally.specs.inner.Counting.{AreListed}
use Rattle.rbbi_tally.specs.inner.Searching.{places_to}

-- a segment begins in the text, and its search looks past its start, and at most one place past the end
pub record IsInText (x : List ℕ) (segment : Segment) : Type 0 where
  pub at : segment.at < length x
  pub ahead : segment.at < segment.look
  pub look : segment.look ≤ length x + 1

module _ (table : Table) (x : List ℕ) where
  pub segments_joined : (from mid to : ℕ) (these those : List Segment) → AreSegments table x from mid these → AreSegments table x mid to those →
      AreSegments table x from to (these ++ those)
  segments_joined from mid to [] those are also = subst (λ p. AreSegments table x p to those) (sym are) also
  segments_joined from mid to (s ∷ these) those are also = (are.0, are.1, segments_joined (found table x from).at mid to these those are.2 also)

  pub first_place : (from to : ℕ) (those : List Segment) → AreSegments table x from to those → from ≡ place_of those to
  first_place from to [] are = are
  first_place from to (s ∷ those) are = sym (ap (λ t. t.at) are.1)

  pub segments_parted : (from to : ℕ) (these those : List Segment) → AreSegments table x from to (these ++ those) →
      AreSegments table x from (place_of those to) these × AreSegments table x (place_of those to) to those
  segments_parted from to [] those are =
      let here : from ≡ place_of those to = first_place from to those are in
      (here, subst (λ p. AreSegments table x p to those) here are)
  segments_parted from to (s ∷ these) those are =
      let rest = segments_parted (found table x from).at to these those are.2 in ((are.0, are.1, rest.0), rest.1)

  pub segments_push : (from to : ℕ) (these : List Segment) → AreSegments table x from to these → to < length x →
      AreSegments table x from (found table x to).at (these ++ segment_at table x to ∷ [])
  segments_push from to these are short =
      segments_joined from to (found table x to).at these (segment_at table x to ∷ []) are (short, refl, refl)

  pub segments_in_text : (from to : ℕ) (these : List Segment) → AreSegments table x from to these → AllByRecursion (IsInText x) these
  segments_in_text from to [] are = tt
  segments_in_text from to (s ∷ these) are =
      let look = look_lies table x from are.0 in
      let here : IsInText x (segment_at table x from) = record { at = are.0; ahead = look.0; look = look.1 } in
      (subst (IsInText x) (sym are.1) here, segments_in_text (found table x from).at to these are.2)

  pub segments_go_on : (from to : ℕ) (these : List Segment) → AreSegments table x from to these → length these + from ≤ to
  segments_go_on from to [] are = omega arith
  segments_go_on from to (s ∷ these) are =
      omega (arith, (found_lies table x from are.0).0, segments_go_on (found table x from).at to these are.2)

  pub segments_between : (from to : ℕ) (these : List Segment) → AreSegments table x from to these →
      AllByRecursion (λ s. (from ≤ s.at) × (s.at < to)) these
  segments_between from to [] are = tt
  segments_between from to (s ∷ these) are =
      let next : ℕ = (found table x from).at in
      let past = (found_lies table x from are.0).0 in
      let here : s.at ≡ from = ap (λ t. t.at) are.1 in
      let rest = segments_between next to these are.2 in
      ((omega arith, omega (arith, segments_go_on next to these are.2)), later from next (omega arith) to these rest)
    where
      later : (low high : ℕ) → low ≤ high → (to : ℕ) (ss : List Segment) → AllByRecursion (λ s. (high ≤ s.at) × (s.at < to)) ss →
          AllByRecursion (λ s. (low ≤ s.at) × (s.at < to)) ss
      later low high order to [] all = tt
      later low high order to (s ∷ ss) all = ((omega (arith, all.0.0), all.0.1), later low high order to ss all.1)

  pub segments_rise : (from to : ℕ) (these : List Segment) → AreSegments table x from to these → IsRising (places_to these to)
  segments_rise from to [] are = tt
  segments_rise from to (s ∷ []) are =
      let here : s.at ≡ from = ap (λ t. t.at) are.1 in
      let next : (found table x from).at ≡ to = are.2 in
      (omega (arith, (found_lies table x from are.0).0), tt)
  segments_rise from to (s ∷ t ∷ these) are =
      let here : s.at ≡ from = ap (λ u. u.at) are.1 in
      let next : t.at ≡ (found table x from).at = ap (λ u. u.at) are.2.1 in
      (omega (arith, (found_lies table x from are.0).0), segments_rise (found table x from).at to (t ∷ these) are.2)

  -- where no search looks past a place, the segments don't lead past it
  pub segments_short : IsValidTable table → (at from to : ℕ) (these : List Segment) → AreSegments table x from to these → from ≤ at →
      AllByRecursion (λ s. s.look ≤ at) these →
      to ≤ at
  segments_short valid at from to [] are low short = omega arith
  segments_short valid at from to (s ∷ these) are low short =
      let look : s.look ≡ look_end table x from = ap (λ t. t.look) are.1 in
      let up_to = found_up_to table valid x from are.0 in
      let by = end_by_look table x from are.0 in
      segments_short valid at (found table x from).at to these are.2 (omega (arith, short.0)) short.1

  pub segments_listed : IsValidTable table → (from to : ℕ) (these : List Segment) → AreSegments table x from to these → AreListed (length table.lists) these
  segments_listed valid from to [] are = tt
  segments_listed valid from to (s ∷ these) are =
      let within = found_within table valid x from in
      let here : s.list ≡ (found table x from).list = ap (λ t. t.list) are.1 in
      (omega arith, segments_listed valid (found table x from).at to these are.2)
