-- Columns that are kept once each, while categories are gone through.
use Rattle.std.specs.Prelude.{◌≡◌, ◌≢◌, ℕ, ◌<◌, ◌≤◌, List, length, slice_index}
use Rattle.rbbi_bits.specs.NumberedRows.{listed_row}
use Rattle.rbbi_canon.specs.declared.grid.Grid.{Grid}
use Rattle.rbbi_canon.specs.inner.Grids.{IsColumn}

-- the column of a category with its place among those that are kept
pub record HasColumn (grid : Grid) (kept : List (List ℕ)) (firsts : List ℕ) (category first : ℕ) : Type 0 where
  pub place : ℕ
  pub within : place < length kept
  pub first_is : first ≡ slice_index firsts place
  pub column : IsColumn grid category (listed_row kept place)

-- The columns of the first so many categories are kept once each, with the first category that has each.
pub record AreKept (grid : Grid) (category : ℕ) (kept : List (List ℕ)) (firsts found : List ℕ) : Type 0 where
  pub many : length firsts ≡ length kept
  pub few : length kept ≤ category
  pub once : (j k : ℕ) → j < k → k < length kept → listed_row kept j ≢ listed_row kept k
  pub columns : (k : ℕ) → k < length kept → (slice_index firsts k < grid.width) × IsColumn grid (slice_index firsts k) (listed_row kept k)
  pub all : length found ≡ category
  pub each : (c : ℕ) → c < category → HasColumn grid kept firsts c (slice_index found c)
