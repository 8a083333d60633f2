-- The table that parts are, and which parts may be asked about.
use Rattle.std.specs.Prelude.{◌≡◌, ℕ, ◌+◌, ◌*◌, ◌/◌, ◌<◌, List, [], length, slice_index}
use Rattle.rbbi_model.specs.Tables.{Table, RowHead}
use Rattle.rbbi_model.specs.ValidTables.{AreValidRanges, AreValidLists, AreValidRows, AreFronted, AreValidSafePairs}
use Rattle.rbbi_table.specs.declared.parts.Parts.{Parts}

-- the table of these parts, valid or not
abbrev pub table_of : Parts → Table
table_of parts = record {
  categories = parts.categories;
  slashes = parts.slashes;
  ranges = parts.ranges;
  lists = parts.lists;
  rows = parts.rows;
  cells = parts.cells;
  safe = parts.safe;
}

-- There is a next row for each row and category, and as many bytes as the bits of all pairs of categories need.
pub record HasFittingParts (table : Table) : Type 0 where
  pub cells : length table.cells ≡ length table.rows * table.categories
  pub safe : length table.safe ≡ (table.categories * table.categories + 7) / 8

-- Parts that are valid. That what is stored as a byte is one is no question where bytes are stored.
pub record AreValidParts (table : Table) : Type 0 where
  pub fitting : HasFittingParts table
  pub ranges : AreValidRanges table.categories table.ranges
  pub lists : AreValidLists table.lists
  pub rows : AreValidRows table
  pub fronts : AreFronted table
  pub safe : AreValidSafePairs table

-- a table of rows and safe pairs alone
abbrev pub rows_of : ℕ → List RowHead → List ℕ → List ℕ → Table
rows_of categories rows cells safe =
    record { categories = categories; slashes = 0; ranges = []; lists = []; rows = rows; cells = cells; safe = safe }

-- there is a next row for each row and category, and each is a row
pub record AreNextRows (categories : ℕ) (rows : List RowHead) (cells : List ℕ) : Type 0 where
  pub all : length cells ≡ length rows * categories
  pub within : (i : ℕ) → i < length cells → slice_index cells i < length rows
