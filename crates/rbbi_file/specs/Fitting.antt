-- Tables whose numbers fit the bytes that a table file has for them, and the bytes that spell such a table.
use Rattle.std.specs.Prelude.{◌≡◌, ℕ, ◌^◌, ◌<◌, List, length}
use Rattle.std.specs.List.{AllByRecursion}
use Rattle.rbbi_model.specs.Tables.{Table, CategoryRange, RowHead}
use Rattle.rbbi_model.specs.TableFile.{cell_size, file_bytes}
use Rattle.rbbi_table.specs.Parts.{HasFittingParts}
use Rattle.rbbi_file.specs.Lengths.{HasMagic, version_in}

-- the range's start fits four bytes, and its category two
abbrev pub FitsRange : CategoryRange → Type 0
FitsRange range = (range.start < 2 ^ 32) × (range.category < 2 ^ 16)

-- the list's length fits two bytes, and each number four
abbrev pub FitsList : List ℕ → Type 0
FitsList statuses = (length statuses < 2 ^ 16) × AllByRecursion (λ status. status < 2 ^ 32) statuses

-- the accept number fits two bytes, the front mask four, and the number of the list two
abbrev pub FitsHead : RowHead → Type 0
FitsHead head = (head.accept < 2 ^ 16) × (head.fronts < 2 ^ 32) × (head.list < 2 ^ 16)

-- each number of the table fits the bytes that a table file has for it, in which a next row takes so many
pub record FitsBytes (size : ℕ) (table : Table) : Type 0 where
  pub categories : table.categories < 2 ^ 16
  pub slashes : table.slashes < 2 ^ 16
  pub range_count : length table.ranges < 2 ^ 32
  pub list_count : length table.lists < 2 ^ 16
  pub row_count : length table.rows < 2 ^ 16
  pub ranges : AllByRecursion FitsRange table.ranges
  pub lists : AllByRecursion FitsList table.lists
  pub rows : AllByRecursion FitsHead table.rows
  pub cells : AllByRecursion (λ cell. cell < 256 ^ size) table.cells

-- The bytes spell the table, valid or not, in the version that they name. No other table has these bytes.
pub record Spell (bytes : List ℕ) (table : Table) : Type 0 where
  pub magic : HasMagic bytes
  pub fitting : HasFittingParts table
  pub fits : FitsBytes (cell_size (version_in bytes) (length table.rows)) table
  pub spelled : bytes ≡ file_bytes (version_in bytes) table
