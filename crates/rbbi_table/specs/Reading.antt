-- A search over characters that were read before, by their categories.
use Rattle.std.specs.Prelude.{◌≡◌, ℕ, ◌+◌, ◌<◌, ◌≤◌, List, length, slice_index}
use Rattle.rbbi_model.specs.Tables.{Table}
use Rattle.rbbi_model.specs.Runs.{category_at}
use Rattle.rbbi_model.specs.Searches.{found, look_end}

-- the numbers are the categories of the characters of the text from a place on
pub record AreRead (table : Table) (x : List ℕ) (from : ℕ) (categories : List ℕ) : Type 0 where
  pub within : from + length categories ≤ length x
  pub each : (k : ℕ) → k < length categories → slice_index categories k ≡ category_at table x (from + k)

-- this is what a search from the place finds, and how far it looks
pub record IsFoundFrom (table : Table) (x : List ℕ) (s : ℕ) (at status look : ℕ) : Type 0 where
  pub at_is : at ≡ (found table x s).at
  pub status_is : status ≡ (found table x s).list
  pub look_is : look ≡ look_end table x s
