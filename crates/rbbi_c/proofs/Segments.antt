-- The segment that holds a place, by the boundaries that are found for it.
use Rattle.std.proofs.Common.{◌≡◌, ℕ, ◌<◌, ◌≤◌, ltb, true, false, List, [], ◌∷◌, Option, Some, None, length, option_map, refl, sym, ap, ◌∙◌, subst, arith}
use Rattle.std.specs.Prelude.{MatchOption, IsSomeAnd}
use Rattle.std.specs.List.{AllByRecursion}
use Rattle.std.proofs.lemmas.Bool.{lt-ltb, false≢true}
use Rattle.rbbi_model.specs.declared.unit.Unit.{Unit as TextUnit}
use Rattle.rbbi_model.specs.Boundaries.{Boundary}
use Rattle.rbbi_model.specs.Cover.{IsPlaceOf, BeginAtZero}
use Rattle.rbbi_model.specs.Places.{largest}
use Rattle.rbbi_model.specs.Tables.{Table}
use Rattle.rbbi_model.specs.Searches.{table_boundaries}
use Rattle.rbbi_model.specs.Units.{offset_of, measured}
use Rattle.rbbi_model.specs.Answers.{first_after, last_before, statuses_at}
use Rattle.rbbi_model.proofs.Found.{some_same}
use Rattle.rbbi_model.proofs.Lists.{all_through}
use Rattle.rbbi_model.proofs.Covering.{table_covers}
use Rattle.rbbi_model.proofs.Measured.{offset_rises, less_same, first_turned, last_turned, statuses_same}
use Rattle.rbbi_session.specs.inner.UnitPlaces.{IsPlaceUpTo}
use Rattle.rbbi_session.proofs.Answering.{none_past, place_within}
use Rattle.rbbi_c.specs.Segments.{EndsAt, IsSegmentAt}
use Rattle.rbbi_c.specs.declared.bounds.Bound.{Bound}
use Rattle.rbbi_c.specs.declared.segment.Segment.{Segment}
use Rattle.rbbi_c.specs.inner.Bounds.{IsBound, Finds, place_of}
use Rattle.rbbi_c.proofs.Found.{past_up_to_place}
use Rattle.rbbi_c.proofs.Within.{none_passes_last, first_lies}

-- something lies before a place past 0
some_before : (bs : List Boundary) (o : ℕ) → BeginAtZero bs → 0 < o → last_before bs o ≡ None → ⊥
some_before [] o begins some none = absurd begins
some_before (b ∷ bs) o begins some none =
    false≢true (sym (none_passes_last (λ at. ltb at o) (b ∷ bs) none).0 ∙ lt-ltb b.at o (omega (arith, begins, some)))

module _ (table : Table) (unit : TextUnit) (x : List ℕ) where
  -- the last boundary before a place, by the unit
  last_measured : (p : ℕ) → p ≤ length x
      → last_before (measured unit x (table_boundaries table x)) (offset_of unit x p) ≡ option_map (offset_of unit x) (last_before (table_boundaries table x) p)
  last_measured p within =
      last_turned (offset_of unit x) (λ at. ltb at p) (λ at. ltb at (offset_of unit x p)) None (table_boundaries table x)
      (all_through (λ b. b.at ≤ length x) (λ b. ltb (offset_of unit x b.at) (offset_of unit x p) ≡ ltb b.at p)
      (λ b low. less_same (offset_of unit x) (length x) (offset_rises unit x) b.at p low within) (table_boundaries table x) (none_past table x))

  -- the first boundary past a number, by the place up to it
  first_measured : (o i : ℕ) → IsPlaceUpTo unit x o i
      → first_after (measured unit x (table_boundaries table x)) o ≡ option_map (offset_of unit x) (first_after (table_boundaries table x) i)
  first_measured o i is =
      first_turned (offset_of unit x) (λ at. ltb i at) (λ at. ltb o at) (table_boundaries table x)
      (all_through (λ b. b.at ≤ length x) (λ b. ltb o (offset_of unit x b.at) ≡ ltb i b.at) (λ b low. past_up_to_place unit x o i is b.at low)
      (table_boundaries table x) (none_past table x))

  -- what lies between the last boundary before one and that one
  pub ends_at : (end : Bound) (begin : Option Bound) (from : ℕ) → IsBound table unit x end → 0 < end.at
      → Finds table unit x (last_before (table_boundaries table x) end.at) begin → MatchOption begin (from ≡ 0) (λ bound. from ≡ bound.offset)
      → EndsAt (measured unit x (table_boundaries table x)) end.offset (record { from = from; to = end.offset; status = end.status })
  ends_at end None from is some finds told =
      absurd (some_before (table_boundaries table x) end.at (table_covers table x).begin some (sym finds.found_at))
  ends_at end (Some begin) from is some finds told =
      let within : end.at ≤ length x = place_within (table_boundaries table x) end.at (length x) (none_past table x) is.is_place in
      record {
        to_is = refl;
        from_is =
            ap (last_before (measured unit x (table_boundaries table x))) is.offset_is
            ∙ last_measured end.at within
            ∙ ap (option_map (offset_of unit x)) (sym finds.found_at)
            ∙ ap Some (sym finds.are.offset_is ∙ sym told);
        status_is =
            is.status_is
            ∙ ap largest (sym (statuses_same (offset_of unit x) (length x) refl (offset_rises unit x) (table_boundaries table x) (none_past table x)
            end.at within))
            ∙ ap (λ o. largest (statuses_at (measured unit x (table_boundaries table x)) o)) (sym is.offset_is);
      }

  -- a boundary past a place isn't at 0
  pub some_end : (i : ℕ) (end : Option Bound) → Finds table unit x (first_after (table_boundaries table x) i) end
      → MatchOption end (Unit {0}) (λ bound. 0 < bound.at)
  some_end i None finds = tt
  some_end i (Some end) finds =
      let past : i < end.at = first_lies (table_boundaries table x) i end.at (sym finds.found_at) in
      omega (arith, past)

  -- the segment that ends at the first boundary past a place holds it
  pub holds_place : (o i : ℕ) (end : Option Bound) (segment : Option Segment) → IsPlaceUpTo unit x o i
      → Finds table unit x (first_after (table_boundaries table x) i) end
      → MatchOption end (segment ≡ None) (λ bound. IsSomeAnd segment (EndsAt (measured unit x (table_boundaries table x)) bound.offset))
      → MatchOption segment (first_after (measured unit x (table_boundaries table x)) o ≡ None)
      (IsSegmentAt (measured unit x (table_boundaries table x)) o)
  holds_place o i None segment is finds none =
      subst (λ s. MatchOption s (first_after (measured unit x (table_boundaries table x)) o ≡ None)
      (IsSegmentAt (measured unit x (table_boundaries table x)) o)) (sym none)
      (first_measured o i is ∙ ap (option_map (offset_of unit x)) (sym finds.found_at))
  holds_place o i (Some end) None is finds ends = absurd ends
  holds_place o i (Some end) (Some segment) is finds ends = record {
    ends =
        first_measured o i is
        ∙ ap (option_map (offset_of unit x)) (sym finds.found_at)
        ∙ ap Some (sym finds.are.offset_is ∙ sym ends.to_is);
    begins = subst (λ e. EndsAt (measured unit x (table_boundaries table x)) e segment) (sym ends.to_is) ends;
  }
