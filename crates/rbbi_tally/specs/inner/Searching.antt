-- What is skipped of the old segments, and what is found again, up to where the two meet.
use Rattle.std.specs.Prelude.{◌≡◌, ◌≢◌, ℕ, ◌+◌, ◌-◌, ◌<◌, ◌≤◌, Bool, false, MatchBool, List, [], ◌∷◌, ◌++◌, map, sum_by}
use Rattle.std.specs.List.{AllByRecursion}
use Rattle.rbbi_model.specs.Lists.{Member}
use Rattle.rbbi_model.specs.Tables.{Table}
use Rattle.rbbi_model.specs.Costs.{characters_read}
use Rattle.rbbi_tally.specs.inner.Segments.{Segment, AreSegments, place_of}
use Rattle.rbbi_tally.specs.inner.Counting.{IsRecounted}
use Rattle.rbbi_tally.specs.declared.edit.Edit.{Edit}

-- where the segments begin, and their end
abbrev pub places_to : List Segment → ℕ → List ℕ
places_to segments end = map (λ segment. segment.at) segments ++ end ∷ []

-- the old segments before the rest begin before a place, and are taken from the counts
pub record ArePassed (place : ℕ) (old rest : List Segment) (before after : List ℕ) : Type 0 where
  pub gone : List Segment
  pub parted : old ≡ gone ++ rest
  pub passed : AllByRecursion (λ segment. segment.at < place) gone
  pub counted : IsRecounted gone [] before after

-- and none of the rest does
pub record IsSkipped (place : ℕ) (old rest : List Segment) (before after : List ℕ) : Type 0 where
  pub are_passed : ArePassed place old rest before after
  pub reached : (end : ℕ) → place ≤ end → place ≤ place_of rest end

-- What is gone when the search has come to a place. Before the edit that is nothing; after it the old segments before the place moved back
-- are, and the old and the new ones meet exactly where the rest begins there.
pub record IsGoneTo (edit : Edit) (end place : ℕ) (meets : Bool) (old rest : List Segment) (before after : List ℕ) : Type 0 where
  pub near : place < edit.at + edit.inserted → (meets ≡ false) × (rest ≡ old) × (after ≡ before)
  pub behind : edit.at + edit.inserted ≤ place → IsSkipped (place - edit.inserted + edit.removed) old rest before after
      × MatchBool meets (place_of rest end ≡ place - edit.inserted + edit.removed) (place_of rest end ≢ place - edit.inserted + edit.removed)

-- the place of the new text lies after the edit, and is an old boundary moved
pub record IsMet (edit : Edit) (old : List Segment) (end place : ℕ) : Type 0 where
  pub behind : edit.at + edit.inserted ≤ place
  pub old_place : Member (places_to old end) (place - edit.inserted + edit.removed)

-- the characters that the searches of these segments read
abbrev pub reads_of : Table → List ℕ → List Segment → ℕ
reads_of table x segments = sum_by (λ segment. characters_read table x segment.at) segments

-- The segments of the new text from `start` to `place` are found, and of the old ones those before `rest` are gone.
pub record AreFound (table : Table) (y : List ℕ) (edit : Edit) (start : ℕ) (old : List Segment) (end : ℕ) (found : List Segment) (place : ℕ)
    (rest : List Segment) (before after : List ℕ) : Type 0 where
  pub gone : List Segment
  pub parted : old ≡ gone ++ rest
  pub passed : AllByRecursion (λ segment. segment.at + edit.inserted < place + edit.removed) gone
  pub segments : AreSegments table y start place found
  pub none_met : AllByRecursion (λ segment. ¬ IsMet edit old end segment.at) found
  pub counted : IsRecounted gone found before after

-- and the old and the new ones meet
pub record AreMet (table : Table) (y : List ℕ) (edit : Edit) (start : ℕ) (old : List Segment) (end : ℕ) (found : List Segment) (place : ℕ)
    (rest : List Segment) (before after : List ℕ) : Type 0 where
  pub are_found : AreFound table y edit start old end found place rest before after
  pub behind : edit.at + edit.inserted ≤ place
  pub meets : place_of rest end ≡ place - edit.inserted + edit.removed
