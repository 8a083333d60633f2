-- Segments of a text: what the searches from its boundaries find.
use Rattle.std.specs.Prelude.{◌≡◌, ℕ, ◌+◌, ◌-◌, ◌<◌, List, [], ◌∷◌, length}
use Rattle.rbbi_model.specs.Tables.{Table}
use Rattle.rbbi_model.specs.Searches.{look_end, found}

-- A segment: the boundary at which it begins, the look end of the search from there, and the status list of its end.
pub record Segment : Type 0 where
  pub at : ℕ
  pub look : ℕ
  pub list : ℕ

-- the segment that begins at the boundary
abbrev pub segment_at : Table → List ℕ → ℕ → Segment
segment_at table x y = record { at = y; look = look_end table x y; list = (found table x y).list }

-- the segments from one boundary of the text to another
abbrev pub AreSegments : Table → List ℕ → ℕ → ℕ → List Segment → Type 0
AreSegments table x from to [] = from ≡ to
AreSegments table x from to (segment ∷ segments) =
    (from < length x) × (segment ≡ segment_at table x from) × AreSegments table x (found table x from).at to segments

-- a segment after an edit, in the new text
abbrev pub moved : ℕ → ℕ → Segment → Segment
moved removed inserted segment =
    record { at = segment.at + inserted - removed; look = segment.look + inserted - removed; list = segment.list }

-- where the first of the segments begins, or else the place given
abbrev pub place_of : List Segment → ℕ → ℕ
place_of [] end = end
place_of (segment ∷ segments) end = segment.at
