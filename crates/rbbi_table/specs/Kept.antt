-- What a table keeps beside its parts: the blocks of categories, and the rows in one flat list.
use Rattle.std.specs.Prelude.{◌≡◌, ℕ, ◌+◌, ◌*◌, ◌<◌, List, length, slice_index, Bool, ◌||◌}
use Rattle.std.specs.Prelude.{if◌then◌else◌, ◌==◌, nat_le}
use Rattle.rbbi_model.specs.Tables.{Table, RowHead, head_of, accept_of, fronts_of, list_of, step}
use Rattle.rbbi_model.specs.ValidTables.{IsValidTable}
use Rattle.rbbi_table.specs.Blocks.{AreBlocks}
use Rattle.rbbi_table.specs.Short.{short_stride, IsShortKept}

-- how many numbers of the flat list belong to a row
abbrev pub stride : Table → ℕ
stride table = table.categories + 3

-- a search ends at a row with this head and number
abbrev pub stops_at : RowHead → ℕ → Bool
stops_at head row = (row == 0) || nat_le 2 head.accept

-- the flags of a row with this head and number
abbrev pub move_flags : RowHead → ℕ → ℕ
move_flags head row = (if head.accept == 1 then 1 else 0) + (if head.fronts == 0 then 0 else 2) + (if stops_at head row then 4 else 0)

-- The move to a row: eight times its place, 1 if some rule ends there and no look-ahead rule, 2 if a front ends there, and 4 if a search ends there.
abbrev pub move_to : Table → ℕ → ℕ
move_to table row = row * stride table * 8 + move_flags (head_of table row) row

-- the moves of the row, one for each category, and after them its front mask, its list and its accept number
pub record HasMoves (table : Table) (moves : List ℕ) (row : ℕ) : Type 0 where
  pub each : (category : ℕ) → category < table.categories → slice_index moves (row * stride table + category) ≡ move_to table (step table row category)
  pub fronts : slice_index moves (row * stride table + table.categories) ≡ fronts_of table row
  pub list : slice_index moves (row * stride table + table.categories + 1) ≡ list_of table row
  pub accept : slice_index moves (row * stride table + table.categories + 2) ≡ accept_of table row

-- the moves of the first so many rows
pub record AreFirstMoves (table : Table) (moves : List ℕ) (count : ℕ) : Type 0 where
  pub all : length moves ≡ count * stride table
  pub rows : (row : ℕ) → row < count → HasMoves table moves row

-- all rows' moves
abbrev pub AreMoves : Table → List ℕ → Type 0
AreMoves table moves = AreFirstMoves table moves (length table.rows)

-- the table is valid, and what is kept beside it is its own
pub record IsKept (table : Table) (numbers kept moves : List ℕ) : Type 0 where
  pub valid : IsValidTable table
  pub in_blocks : AreBlocks table.ranges numbers kept
  pub in_moves : AreMoves table moves

-- The table is valid, and what is kept beside it is its own: the rows in the short list, or if that is empty in the other.
pub record IsWholeKept (table : Table) (numbers kept moves short near : List ℕ) (start : ℕ) : Type 0 where
  pub valid : IsValidTable table
  pub in_blocks : AreBlocks table.ranges numbers kept
  pub in_moves : length short ≡ 0 → AreMoves table moves
  pub in_short : 0 < length short → IsShortKept table numbers kept short near
  pub start_is : start ≡ short_stride table
