-- The next rows of a table, the columns of its categories, and categories that are joined.
use Rattle.std.specs.Prelude.{◌≡◌, ◌≢◌, ℕ, ◌*◌, ◌<◌, ◌≤◌, List, [], length, slice_index}
use Rattle.rbbi_model.specs.Words.{IsCodePoint}
use Rattle.rbbi_model.specs.Tables.{Table, CategoryRange, step, category_of}
use Rattle.rbbi_model.specs.ValidTables.{AreValidRanges}
use Rattle.rbbi_canon.specs.declared.grid.Grid.{Grid}

-- a table of which nothing but its next rows counts
abbrev pub table_of_cells : ℕ → List ℕ → Table
table_of_cells categories cells =
    record { categories = categories; slashes = 0; ranges = []; lists = []; rows = []; cells = cells; safe = [] }

-- the table of the grid's next rows
abbrev pub table_of_grid : Grid → Table
table_of_grid grid = table_of_cells grid.width grid.cells.items

-- the next row from a row, for a category
abbrev pub cell_of : Grid → ℕ → ℕ → ℕ
cell_of grid row category = step (table_of_grid grid) row category

-- The next rows are the table's. Of a table of two rows they are all row 0.
pub record IsGridOf (table : Table) (grid : Grid) : Type 0 where
  pub rows : grid.rows ≡ length table.rows
  pub width : grid.width ≡ table.categories
  pub all : length grid.cells.items ≡ grid.rows * grid.width
  pub same : length table.rows ≢ 2 → grid.cells.items ≡ table.cells
  pub zero : length table.rows ≡ 2 → (i : ℕ) → i < length grid.cells.items → slice_index grid.cells.items i ≡ 0

-- every row leads to the same row by both categories
abbrev pub LeadOnAlike : Grid → ℕ → ℕ → Type 0
LeadOnAlike grid this that = (row : ℕ) → row < grid.rows → cell_of grid row this ≡ cell_of grid row that

-- the next rows for the category
pub record IsColumn (grid : Grid) (category : ℕ) (column : List ℕ) : Type 0 where
  pub all : length column ≡ grid.rows
  pub each : (row : ℕ) → row < grid.rows → slice_index column row ≡ cell_of grid row category

-- for each category one by which every row leads on alike, and for all such categories the same
pub record AreRepresentatives (grid : Grid) (found : List ℕ) : Type 0 where
  pub all : length found ≡ grid.width
  pub within : (category : ℕ) → category < grid.width → slice_index found category < grid.width
  pub alike : (category : ℕ) → category < grid.width → LeadOnAlike grid (slice_index found category) category
  pub same : (this that : ℕ) → this < grid.width → that < grid.width → LeadOnAlike grid this that →
      slice_index found this ≡ slice_index found that

-- Joined categories, with one of those that are joined in each: every row leads on alike by it and by the category of each code point of
-- the joined one. Different ones lead on differently. What was in category 0 still is, and the others come by their least code points.
pub record AreJoined (grid : Grid) (ranges : List CategoryRange) (firsts : List ℕ) (joined : List CategoryRange) : Type 0 where
  pub valid : AreValidRanges (length firsts) joined
  pub within : (k : ℕ) → k < length firsts → slice_index firsts k < grid.width
  pub alike : (c : ℕ) → LeadOnAlike grid (slice_index firsts (category_of joined c)) (category_of ranges c)
  pub apart : (j k : ℕ) → j < length firsts → k < length firsts → LeadOnAlike grid (slice_index firsts j) (slice_index firsts k) → j ≡ k
  pub zero : (c : ℕ) → category_of ranges c ≡ 0 → category_of joined c ≡ 0
  pub used : (k : ℕ) → 1 ≤ k → k < length firsts → (c : ℕ) × IsCodePoint c × (category_of joined c ≡ k)
  pub numbered : (k later d : ℕ) → 1 ≤ k → k < later → IsCodePoint d → category_of joined d ≡ later →
      (c : ℕ) × (c < d) × (category_of joined c ≡ k)
