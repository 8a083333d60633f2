-- A text that is seen through windows, and how far its segments were handed over.
use Rattle.std.specs.Prelude.{◌≡◌, ℕ, ◌+◌, ◌-◌, ◌≤◌, ◌⊎◌, Bool, true, List, [], ◌++◌, length, drop, filter, Option, min, slice_range, IsTrue}
use Rattle.rbbi_model.specs.declared.unit.Unit.{Unit as TextUnit}
use Rattle.rbbi_model.specs.Units.{offset_of}
use Rattle.rbbi_model.specs.Places.{largest}
use Rattle.rbbi_model.specs.Boundaries.{Boundary}
use Rattle.rbbi_model.specs.Searches.{next_boundary, follow_by}
use Rattle.rbbi_model.specs.Tables.{Table}
use Rattle.rbbi_filter.specs.declared.filter.Filter.{Filter}
use Rattle.rbbi_segment.specs.Closed.{EndLines, IsLine}
use Rattle.rbbi_segment.specs.Filters.{searched, reports}
use Rattle.rbbi_segment.specs.Segments.{segments_from, segments, AreTaken}
use Rattle.rbbi_segment.specs.declared.segments.Progress.{Progress}
use Rattle.rbbi_segment.specs.declared.segments.Segment.{Segment}

-- The window has the characters of the text from a place on, up to those that are left.
pub record IsWindow (base : ℕ) (window rest x : List ℕ) : Type 0 where
  pub within : base ≤ length x
  pub behind : drop base x ≡ window ++ rest

-- the boundaries that follow a place, at most so many, and are reported
abbrev pub following : (ℕ → Bool) → Table → List ℕ → ℕ → ℕ → List Boundary
following keeps table z most at =
    filter (λ boundary. keeps boundary.at) (follow_by (next_boundary table z) (length z) most (record { at = at; statuses = [] }))

-- The segments up to a boundary that is reported were taken, and those that follow are the rest. Boundaries were looked for up to a place.
pub record AreHandedTo {V : Type 0} (takes : V → Option (List ℕ) → List ℕ → Segment → V → Option (List ℕ) → Type 0)
    (pauses : V → Option (List ℕ) → V → Option (List ℕ) → Type 0) (unit : TextUnit) (f : Option Filter) (table : Table) (x : List ℕ)
    (first : V) (before : Option (List ℕ)) (receiver : V) (now : Option (List ℕ)) (from at : ℕ) : Type 0 where
  pub done : List Segment
  pub most : ℕ
  pub ahead : from ≤ at
  pub enough : length x ≤ at + most
  pub whole : segments unit f table x ≡ done ++ segments_from unit x from (following (reports f (searched f x)) table (searched f x) most at)
  pub taken : AreTaken takes pauses x first before done receiver now

-- The progress in a window that begins at a place of the text: what it says, and what was handed over. The window holds what a filter looks
-- at before its next boundary.
pub record Stands {V : Type 0} (takes : V → Option (List ℕ) → List ℕ → Segment → V → Option (List ℕ) → Type 0)
    (pauses : V → Option (List ℕ) → V → Option (List ℕ) → Type 0) (unit : TextUnit) (f : Option Filter) (table : Table) (x : List ℕ)
    (base : ℕ) (first : V) (before : Option (List ℕ)) (progress : Progress) (receiver : V) (now : Option (List ℕ)) : Type 0 where
  pub place : progress.place ≡ base + progress.start
  pub offset : progress.offset ≡ offset_of unit x progress.place
  pub behind : (base ≡ 0) ⊎ (64 ≤ progress.at)
  pub handed : AreHandedTo takes pauses unit f table x first before receiver now progress.place (base + progress.at)

-- What the handing over within a window does, whatever text the window is one of: with `is_whole` one that ends with it, or goes on after a
-- line feed that ends lines.
abbrev pub HandsOn : {V : Type 0} → (V → Option (List ℕ) → List ℕ → Segment → V → Option (List ℕ) → Type 0)
    → (V → Option (List ℕ) → V → Option (List ℕ) → Type 0) → TextUnit → Option Filter → Table → List ℕ → Bool → Progress → V
    → Option (List ℕ) → Progress → V → Option (List ℕ) → Type 0
HandsOn {V} takes pauses unit f table window is_whole progress receiver now later next then =
    (base : ℕ) (rest x : List ℕ) (first : V) (before : Option (List ℕ)) → IsWindow base window rest x
    → (IsTrue is_whole → (rest ≡ []) ⊎ (EndLines f table × IsLine window))
    → Stands takes pauses unit f table x base first before progress receiver now
    → Stands takes pauses unit f table x base first before later next then

-- the place of the progress lies in the window, not before the segment's start
pub record LiesIn (window : List ℕ) (progress : Progress) : Type 0 where
  pub ordered : progress.start ≤ progress.at
  pub within : progress.at ≤ length window

-- the segment from where the progress is to a boundary of the window with these statuses
pub record IsNextSegment (unit : TextUnit) (window : List ℕ) (progress : Progress) (at : ℕ) (statuses : List ℕ) (segment : Segment) : Type 0 where
  pub start : segment.start ≡ progress.place
  pub end : segment.end ≡ progress.place + (at - progress.start)
  pub start_offset : segment.start_offset ≡ progress.offset
  pub end_offset : segment.end_offset + offset_of unit window progress.start ≡ progress.offset + offset_of unit window at
  pub status : segment.status ≡ largest statuses

-- the window without characters at its start, none of which is looked at again
pub record IsShifted (window shifted : List ℕ) (progress later : Progress) : Type 0 where
  pub gone : ℕ
  pub rest : shifted ≡ drop gone window
  pub start : later.start + gone ≡ progress.start
  pub at : later.at + gone ≡ progress.at
  pub place : later.place ≡ progress.place
  pub offset : later.offset ≡ progress.offset
  pub behind : (gone ≡ 0) ⊎ (64 ≤ later.at)
