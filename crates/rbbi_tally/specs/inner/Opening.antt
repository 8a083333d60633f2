-- A piece that is filled by searches of the text.
use Rattle.std.specs.Prelude.{◌≡◌, ℕ, ◌+◌, ◌<◌, ◌≤◌, List, [], length}
use Rattle.rbbi_model.specs.Tables.{Table}
use Rattle.rbbi_tally.specs.inner.Segments.{AreSegments}
use Rattle.rbbi_tally.specs.inner.Pieces.{segments_in, IsPiece}
use Rattle.rbbi_tally.specs.inner.Counting.{IsRecounted}
use Rattle.rbbi_tally.specs.inner.Searching.{reads_of}
use Rattle.rbbi_tally.specs.declared.piece.Piece.{Piece}

-- the piece has the segments from one boundary to another, which were read and counted
pub record FillsPiece (table : Table) (x : List ℕ) (start : ℕ) (piece : Piece) (next : ℕ) (counts counts' : List ℕ) (before after : ℕ) : Type 0 where
  pub is : IsPiece piece
  pub segments : AreSegments table x start next (segments_in piece)
  pub further : start < next
  pub within : next ≤ length x
  pub counted : IsRecounted [] (segments_in piece) counts counts'
  pub read : after ≡ before + reads_of table x (segments_in piece)
