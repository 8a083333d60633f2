-- What a tally keeps.
use Rattle.std.specs.Prelude.{◌≡◌, ℕ, List, length}
use Rattle.rbbi_model.specs.Tables.{Table}
use Rattle.rbbi_tally.specs.inner.Segments.{AreSegments}
use Rattle.rbbi_tally.specs.inner.Pieces.{contents, ArePieces}
use Rattle.rbbi_tally.specs.inner.Counting.{AreCountsOf}
use Rattle.rbbi_tally.specs.declared.piece.Piece.{Piece}
use Rattle.rbbi_tally.specs.Tallies.{Tally}

-- the segments of the text by pieces, how many have each status list, and room for the table's searches
pub record IsTallied (table : Table) (x : List ℕ) (pieces : List Piece) (counts : List ℕ) (slashes : ℕ) : Type 0 where
  pub are_pieces : ArePieces pieces
  pub segments : AreSegments table x 0 (length x) (contents pieces)
  pub counted : AreCountsOf (length table.lists) (contents pieces) counts
  pub fit : slashes ≡ table.slashes

-- the tally of a text by a table
abbrev pub seen : Table → List ℕ → Tally
seen table x = record { table = table; text = x }
