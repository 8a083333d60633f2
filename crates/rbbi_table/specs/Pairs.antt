-- The bytes of the safe pairs of rows.
use Rattle.std.specs.Prelude.{◌≡◌, ◌+◌, ◌*◌, ◌/◌, length}
use Rattle.rbbi_model.specs.Tables.{Table}
use Rattle.rbbi_model.specs.ValidTables.{AreValidSafePairs}

-- the bytes of the safe pairs of the table's rows
pub record ArePairsOf (table : Table) : Type 0 where
  pub all : length table.safe ≡ (table.categories * table.categories + 7) / 8
  pub pairs : AreValidSafePairs table
