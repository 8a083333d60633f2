-- Parts of a table file that are read from a place on.
use Rattle.std.specs.Prelude.{◌≡◌, ℕ, ◌+◌, ◌*◌, ◌^◌, ◌<◌, List, ◌++◌, length, drop, flat_map}
use Rattle.std.specs.List.{AllByRecursion}
use Rattle.rbbi_model.specs.Tables.{RowHead}
use Rattle.rbbi_model.specs.TableFile.{little_endian, list_bytes, row_bytes}
use Rattle.rbbi_file.specs.Lengths.{rows_size}
use Rattle.rbbi_file.specs.Fitting.{FitsList, FitsHead}

-- from the place on stand these bytes, and they end at the other place
abbrev pub Stand : List ℕ → List ℕ → ℕ → ℕ → Type 0
Stand bytes these at end = drop at bytes ≡ these ++ drop end bytes

-- status lists stand from the one place to the other
pub record AreListsAt (bytes : List ℕ) (lists : List (List ℕ)) (at end : ℕ) : Type 0 where
  pub stand : Stand bytes (flat_map list_bytes lists) at end
  pub fit : AllByRecursion FitsList lists

-- the cells are those before, and so many more, which stand from the place on, each in so many bytes
pub record AreCellsAt (size : ℕ) (bytes before cells : List ℕ) (at count : ℕ) : Type 0 where
  pub added : List ℕ
  pub are : cells ≡ before ++ added
  pub many : length added ≡ count
  pub stand : Stand bytes (flat_map (little_endian size) added) at (at + size * count)
  pub fit : AllByRecursion (λ cell. cell < 256 ^ size) added

-- so many rows of so many categories stand from the place on, each next row in so many bytes
pub record AreRowsAt (size : ℕ) (bytes : List ℕ) (categories count : ℕ) (rows : List RowHead) (cells : List ℕ) (at : ℕ) : Type 0 where
  pub stand : Stand bytes (row_bytes size categories rows cells) at (at + rows_size size count categories)
  pub many : length rows ≡ count
  pub whole : length cells ≡ count * categories
  pub fit : AllByRecursion FitsHead rows
  pub fit_cells : AllByRecursion (λ cell. cell < 256 ^ size) cells
