-- Rows that are numbered as they are first met.
use Rattle.std.specs.Prelude.{◌≡◌, ◌≢◌, ℕ, ◌+◌, ◌*◌, ◌<◌, ◌≤◌, List, length, slice_index}
use Rattle.rbbi_model.specs.Tables.{row_along}
use Rattle.rbbi_model.specs.ValidTables.{IsWay}
use Rattle.rbbi_model.specs.Canonical.{AreNumberedAsMet}
use Rattle.rbbi_canon.specs.declared.grid.Grid.{Grid}
use Rattle.rbbi_canon.specs.inner.Grids.{table_of_cells, table_of_grid, cell_of, LeadOnAlike}

-- Each row leads to rows, row 0 to itself, and each but row 0 is reached from row 1. By each category every row leads on as by one of the firsts.
pub record CanBeWalked (grid : Grid) (firsts : List ℕ) : Type 0 where
  pub some : 2 ≤ grid.rows
  pub few : grid.rows ≤ 4095
  pub next : (row category : ℕ) → row < grid.rows → category < grid.width → cell_of grid row category < grid.rows
  pub stop : (category : ℕ) → category < grid.width → cell_of grid 0 category ≡ 0
  pub reached : (row : ℕ) → row ≢ 0 → row < grid.rows →
      (way : List ℕ) × IsWay (table_of_grid grid) way × (row_along (table_of_grid grid) 1 way ≡ row)
  pub sources : (k : ℕ) → k < length firsts → slice_index firsts k < grid.width
  pub stand : (category : ℕ) → category < grid.width → (k : ℕ) × (k < length firsts) × LeadOnAlike grid (slice_index firsts k) category

-- each of the first so many places of the new next rows leads to the row that is met there
abbrev pub AreSteps : Grid → List ℕ → List ℕ → List ℕ → ℕ → Type 0
AreSteps grid firsts order cells count =
    (k number : ℕ) → number < length firsts → k * length firsts + number < count →
    (slice_index cells (k * length firsts + number) < length order)
    × (slice_index order (slice_index cells (k * length firsts + number)) ≡ cell_of grid (slice_index order k) (slice_index firsts number))

-- The order has each row once, rows 0 and 1 first. The new next rows lead as the old ones do, and from row 2 on rows are numbered as they are met.
pub record AreWalked (grid : Grid) (firsts order cells : List ℕ) : Type 0 where
  pub many : length order ≡ grid.rows
  pub stop : slice_index order 0 ≡ 0
  pub start : slice_index order 1 ≡ 1
  pub within : (k : ℕ) → k < length order → slice_index order k < grid.rows
  pub once : (j k : ℕ) → j < length order → k < length order → slice_index order j ≡ slice_index order k → j ≡ k
  pub all : (row : ℕ) → row < grid.rows → (k : ℕ) × (k < length order) × (slice_index order k ≡ row)
  pub full : length cells ≡ length order * length firsts
  pub steps : AreSteps grid firsts order cells (length cells)
  pub met : AreNumberedAsMet (table_of_cells (length firsts) cells)
