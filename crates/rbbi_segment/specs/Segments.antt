-- The segments of a text by a table and a filter, and what takes them one after the other.
use Rattle.std.specs.Prelude.{ℕ, List, [], ◌∷◌, ◌++◌, Option, slice_range}
use Rattle.rbbi_model.specs.declared.unit.Unit.{Unit as TextUnit}
use Rattle.rbbi_model.specs.Units.{offset_of}
use Rattle.rbbi_model.specs.Places.{largest}
use Rattle.rbbi_model.specs.Boundaries.{Boundary}
use Rattle.rbbi_model.specs.Tables.{Table}
use Rattle.rbbi_filter.specs.declared.filter.Filter.{Filter}
use Rattle.rbbi_segment.specs.Filters.{boundaries_through}
use Rattle.rbbi_segment.specs.declared.segments.Segment.{Segment}

-- from a place of the text to a boundary, with their offsets in the unit and the largest status there
abbrev pub segment_to : TextUnit → List ℕ → ℕ → Boundary → Segment
segment_to unit x start boundary = record {
  start = start;
  end = boundary.at;
  start_offset = offset_of unit x start;
  end_offset = offset_of unit x boundary.at;
  status = largest boundary.statuses;
}

-- the segments from a place to the boundaries that follow it
abbrev pub segments_from : TextUnit → List ℕ → ℕ → List Boundary → List Segment
segments_from unit x start [] = []
segments_from unit x start (next ∷ others) = segment_to unit x start next ∷ segments_from unit x next.at others

-- the segments between boundaries that follow one another
abbrev pub segments_between : TextUnit → List ℕ → List Boundary → List Segment
segments_between unit x [] = []
segments_between unit x (first ∷ others) = segments_from unit x first.at others

-- the segments of the text by the table that the filter leaves, with offsets in the unit
abbrev pub segments : TextUnit → Option Filter → Table → List ℕ → List Segment
segments unit filter table x = segments_between unit x (boundaries_through filter table x)

-- A receiver took these segments of the text, one after the other and no others, with pauses between some. `takes` says what taking one
-- with its characters does to the receiver and to what the sink has taken, and `pauses` what a pause does.
pub data AreTaken {V : Type 0} (takes : V → Option (List ℕ) → List ℕ → Segment → V → Option (List ℕ) → Type 0)
    (pauses : V → Option (List ℕ) → V → Option (List ℕ) → Type 0) (x : List ℕ) (first : V) (before : Option (List ℕ)) :
    List Segment → V → Option (List ℕ) → Type 0 where
  NoneTaken : AreTaken takes pauses x first before [] first before
  OneMore : (taken : List Segment) (segment : Segment) (receiver next : V) (between now : Option (List ℕ)) →
      AreTaken takes pauses x first before taken receiver between →
      takes receiver between (slice_range x segment.start segment.end) segment next now →
      AreTaken takes pauses x first before (taken ++ segment ∷ []) next now
  Paused : (taken : List Segment) (receiver next : V) (between now : Option (List ℕ)) →
      AreTaken takes pauses x first before taken receiver between → pauses receiver between next now →
      AreTaken takes pauses x first before taken next now

-- the receiver took all of these segments in turn, and then put what was left
pub record TakesAll {V : Type 0} (takes : V → Option (List ℕ) → List ℕ → Segment → V → Option (List ℕ) → Type 0)
    (pauses : V → Option (List ℕ) → V → Option (List ℕ) → Type 0) (ends : V → Option (List ℕ) → Option (List ℕ) → Type 0)
    (x : List ℕ) (all : List Segment) (first : V) (before now : Option (List ℕ)) : Type 0 where
  pub last : V
  pub between : Option (List ℕ)
  pub taken : AreTaken takes pauses x first before all last between
  pub ended : ends last between now
