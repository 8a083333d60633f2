-- The greatest statuses of a table's lists, as they are kept.
use Rattle.std.specs.Prelude.{◌≡◌, ℕ, ◌<◌, List, length, slice_index}
use Rattle.rbbi_model.specs.Places.{largest}
use Rattle.rbbi_model.specs.Tables.{Table, statuses_of}

-- the greatest status of each of the first lists
abbrev pub AreGreatest : Table → List ℕ → Type 0
AreGreatest table statuses = (k : ℕ) → k < 16 → k < length table.lists → slice_index statuses k ≡ largest (statuses_of table k)
