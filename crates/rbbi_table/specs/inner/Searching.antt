-- A search in a table with no look-ahead rules, on its way.
use Rattle.std.specs.Prelude.{◌≡◌, ℕ, ◌+◌, ◌*◌, ◌%◌, ◌<◌, ◌≤◌, ◌⊎◌, Bool, true, false, ◌&&◌, ◌==◌, nat_lt, suc, List, length, Some, None}
use Rattle.rbbi_model.specs.Places.{greatest_below}
use Rattle.rbbi_model.specs.Tables.{Table, accept_of, stops}
use Rattle.rbbi_model.specs.Searches.{row_at}
use Rattle.rbbi_table.specs.Short.{short_stride}

-- the search has read up to a place and goes on, and some rule ends there
pub record IsOnward (table : Table) (x : List ℕ) (s at : ℕ) : Type 0 where
  pub from : s < at
  pub to : at ≤ length x
  pub going : (z : ℕ) → s < z → z ≤ at → stops table (row_at table x s z) ≡ false
  pub ends : (accept_of table (row_at table x s at) == 1) ≡ true

-- this is the move to the row at the place
pub record IsMoveTo (table : Table) (x : List ℕ) (s at move : ℕ) : Type 0 where
  pub place : move ≡ row_at table x s at * short_stride table + move % 4
  pub ends : nat_lt (move % 4) 3 ≡ (accept_of table (row_at table x s at) == 1)

-- some rule ends at the place, and no look-ahead rule
abbrev pub ends_at : Table → List ℕ → ℕ → ℕ → Bool
ends_at table x s q = nat_lt s q && (accept_of table (row_at table x s q) == 1)

-- the last place at which a rule ended, and where its row begins in the short moves; or the start, and 0
abbrev pub IsShortEnd : Table → List ℕ → ℕ → ℕ → ℕ → ℕ → Type 0
IsShortEnd table x s at end end_row =
    ((end ≡ s) × (end_row ≡ 0) × (greatest_below (ends_at table x s) (suc at) ≡ None))
    ⊎ ((s < end) × (end_row ≡ row_at table x s end * short_stride table) × (greatest_below (ends_at table x s) (suc at) ≡ Some end))

-- a search that goes on at a place, where its row begins, and what ended last
pub record IsGoing (table : Table) (x : List ℕ) (s at row end end_row : ℕ) : Type 0 where
  pub from : s ≤ at
  pub to : at ≤ length x
  pub row_is : row ≡ row_at table x s at * short_stride table
  pub going : (z : ℕ) → s < z → z ≤ at → stops table (row_at table x s z) ≡ false
  pub ended : IsShortEnd table x s at end end_row
