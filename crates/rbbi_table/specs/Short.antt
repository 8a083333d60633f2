-- What is kept beside a table with no look-ahead rules: its rows in one flat list of 16-bit numbers, and the categories of the first code points.
use Rattle.std.specs.Prelude.{◌≡◌, ℕ, ◌+◌, ◌*◌, ◌/◌, ◌%◌, ◌<◌, ◌≤◌, List, length, slice_index}
use Rattle.rbbi_model.specs.Tables.{Table, list_of, step}
use Rattle.rbbi_model.specs.ValidTables.{IsValidTable}
use Rattle.rbbi_table.specs.Blocks.{AreBlocks, in_block}
use Rattle.rbbi_table.specs.Kinds.{AreKinds}

-- how many numbers belong to a row: a multiple of 4
abbrev pub short_stride : Table → ℕ
short_stride table = (table.categories + 4) / 4 * 4

-- the move from the row by the category
abbrev pub short_move : Table → List ℕ → ℕ → ℕ → ℕ
short_move table moves row category = slice_index moves (row * short_stride table + category + 1)

-- The row's list, and after it its moves, one for each category: the place at which the next row begins, and the kind of the move.
pub record HasShortMoves (table : Table) (moves : List ℕ) (row : ℕ) : Type 0 where
  pub list : slice_index moves (row * short_stride table) ≡ list_of table row
  pub each : (category : ℕ) → category < table.categories →
      short_move table moves row category ≡ step table row category * short_stride table + short_move table moves row category % 4
  pub kinds : AreKinds table.categories table.rows table.cells (λ category. short_move table moves row category % 4) row

-- the moves of the first so many rows
abbrev pub AreFirstShortMoves : Table → List ℕ → ℕ → Type 0
AreFirstShortMoves table moves count = (row : ℕ) → row < count → HasShortMoves table moves row

-- the moves of all rows of a table with no look-ahead rules
pub record AreShortMoves (table : Table) (moves : List ℕ) : Type 0 where
  pub none : table.slashes ≡ 0
  pub all : length moves ≡ length table.rows * short_stride table
  pub small : length moves ≤ 65536
  pub rows : AreFirstShortMoves table moves (length table.rows)

-- the categories of the first code points, as the blocks have them
abbrev pub AreNear : List ℕ → List ℕ → List ℕ → Type 0
AreNear numbers kept near = (c : ℕ) → c < length near → slice_index near c ≡ in_block numbers kept c

-- the table is valid, and what is kept beside it is its own
pub record IsShortKept (table : Table) (numbers kept moves near : List ℕ) : Type 0 where
  pub valid : IsValidTable table
  pub in_blocks : AreBlocks table.ranges numbers kept
  pub in_moves : AreShortMoves table moves
  pub in_near : AreNear numbers kept near
