-- What an edit makes of the pieces.
use Rattle.std.specs.Prelude.{ℕ, ◌+◌, ◌-◌, ◌<◌, ◌≤◌}
use Rattle.rbbi_model.specs.Words.{most_characters}
use Rattle.rbbi_tally.specs.inner.Segments.{Segment}
use Rattle.rbbi_tally.specs.inner.Pieces.{most_looked}
use Rattle.rbbi_tally.specs.declared.edit.Edit.{Edit}
use Rattle.rbbi_tally.specs.declared.piece.Piece.{Piece}

-- the segment lies after what is removed, and moved it fits a piece that starts at the place
pub record CanMove (edit : Edit) (start : ℕ) (segment : Segment) : Type 0 where
  pub behind : edit.removed ≤ segment.at
  pub ahead : segment.at ≤ segment.look
  pub from : start ≤ segment.at + edit.inserted - edit.removed
  pub near : segment.at + edit.inserted - edit.removed - start < most_characters
  pub small : segment.look + edit.inserted - edit.removed ≤ most_looked

-- the piece lies after what is removed, and is still within its bounds when it is moved
pub record CanShift (edit : Edit) (piece : Piece) : Type 0 where
  pub behind : edit.removed ≤ piece.start
  pub small : piece.reach - edit.removed + edit.inserted ≤ most_looked

-- the segment is one that a text may have
pub record FitText (segment : Segment) : Type 0 where
  pub at : segment.at < most_characters
  pub look : segment.look ≤ most_looked
