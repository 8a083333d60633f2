-- Where one look-ahead rule's front ends before the rule is completed.
use Rattle.std.specs.Prelude.{◌≡◌, ◌≢◌, ℕ, ◌+◌, ◌<◌, ◌≤◌, ◌⊎◌, Bool, true, false, List, length, take, slice_index, IsTrue}
use Rattle.rbbi_model.specs.Places.{has_bit}
use Rattle.rbbi_model.specs.Tables.{Table, accept_of, fronts_of, step, row_along}
use Rattle.rbbi_model.specs.ValidTables.{IsWay}
use Rattle.rbbi_table.specs.inner.Targets.{IsGathered}

-- On every way from row 1 into a row at which the look-ahead rule is completed, its front ends at an earlier row.
abbrev pub IsFronted : Table → ℕ → Type 0
IsFronted table slash =
    (way : List ℕ) → IsWay table way → accept_of table (row_along table 1 way) ≡ slash + 2 →
    (earlier : ℕ) × (earlier < length way) × IsTrue (has_bit (fronts_of table (row_along table 1 (take earlier way))) slash)

-- the row is reached from row 1 through rows at which the front doesn't end, and it is such a row
pub record IsReached (table : Table) (slash row : ℕ) : Type 0 where
  pub within : row < length table.rows
  pub way : List ℕ
  pub is_way : IsWay table way
  pub leads : row_along table 1 way ≡ row
  pub bits : (earlier : ℕ) → earlier ≤ length way → has_bit (fronts_of table (row_along table 1 (take earlier way))) slash ≡ false
  pub uncompleted : accept_of table row ≢ slash + 2

-- the rows of the queue are reached, and row 1 is among them
pub record IsWalk (table : Table) (slash : ℕ) (seen : List Bool) (queue : List ℕ) : Type 0 where
  pub long : length seen ≡ length table.rows
  pub gathered : IsGathered seen queue
  pub start : (i : ℕ) × (i < length queue) × (slice_index queue i ≡ 1)
  pub reached : (i : ℕ) → i < length queue → IsReached table slash (slice_index queue i)

-- the rule isn't completed at the row, and its front ends there or the row is in the queue
pub record IsPassed (table : Table) (slash : ℕ) (queue : List ℕ) (row : ℕ) : Type 0 where
  pub uncompleted : accept_of table row ≢ slash + 2
  pub goes_on : IsTrue (has_bit (fronts_of table row) slash) ⊎ ((i : ℕ) × (i < length queue) × (slice_index queue i ≡ row))

-- all rows that the first so many rows of the queue lead to are passed
abbrev pub ArePassed : Table → ℕ → List ℕ → ℕ → Type 0
ArePassed table slash queue count =
    (i : ℕ) → i < count → (category : ℕ) → category < table.categories → IsPassed table slash queue (step table (slice_index queue i) category)

-- The queue keeps its rows, and the rule is completed at none of the rows that the row leads to: these are passed.
pub record GoesOn (table : Table) (slash row : ℕ) (old : List ℕ) (seen : List Bool) (new : List ℕ) : Type 0 where
  pub walk : IsWalk table slash seen new
  pub keeps : (i : ℕ) → i < length old → (i < length new) × (slice_index new i ≡ slice_index old i)
  pub passed : (category : ℕ) → category < table.categories → IsPassed table slash new (step table row category)

-- what it says that the rule is completed at none of the rows that the row leads to, or at one
abbrev pub GivesNext : Table → ℕ → ℕ → List ℕ → List Bool → List ℕ → Bool → Type 0
GivesNext table slash row old seen new true = GoesOn table slash row old seen new
GivesNext table slash row old seen new false = ¬ IsFronted table slash
