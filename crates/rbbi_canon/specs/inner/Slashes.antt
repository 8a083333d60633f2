-- How many look-ahead rules the rows of a table need.
use Rattle.std.specs.Prelude.{ℕ, ◌+◌, ◌^◌, ◌<◌, ◌≤◌, List, length, slice_index_or}
use Rattle.rbbi_model.specs.Tables.{RowHead, empty_head}

-- the accept number and the mask allow so many look-ahead rules
abbrev pub Allows : ℕ → RowHead → Type 0
Allows k head = (head.accept ≤ k + 1) × (head.fronts < 2 ^ k)

-- all of them do
abbrev pub AllowsAll : ℕ → List RowHead → Type 0
AllowsAll k heads = (row : ℕ) → row < length heads → Allows k (slice_index_or heads row empty_head)
