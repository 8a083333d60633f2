-- Numbers that are written where the caller wants them.
use Rattle.std.specs.Prelude.{◌≡◌, ℕ, ◌+◌, ◌<◌, ◌≤◌, ◌⊎◌, List, length, slice_index}

-- The numbers stand from a place of the room on, as far as there is room. Nothing else changed.
pub record IsFilled (old new : List ℕ) (from : ℕ) (numbers : List ℕ) : Type 0 where
  pub same_room : length new ≡ length old
  pub written : (k : ℕ) → k < length numbers → from + k < length old → slice_index new (from + k) ≡ slice_index numbers k
  pub others : (k : ℕ) → (k < from) ⊎ (from + length numbers ≤ k) → slice_index new k ≡ slice_index old k

-- where the starts of segments are wanted, their ends, and the statuses there
pub record Columns : Type 0 where
  pub starts : List ℕ
  pub places : List ℕ
  pub statuses : List ℕ

abbrev pub columns : List ℕ → List ℕ → List ℕ → Columns
columns starts places statuses = record { starts = starts; places = places; statuses = statuses }
