-- Milestones in a list of characters or pieces: how much of a unit those before each 8th take together.
use Rattle.std.specs.Prelude.{◌≡◌, ℕ, ◌+◌, ◌*◌, ◌<◌, ◌≤◌, List, length, take, slice_index, sum_by}

-- each milestone is what the items before it weigh together; the first stands after 8 items, and there may be fewer than have room
pub record AreMilestones {A : Type 0} (weight : A → ℕ) (items : List A) (sums : List ℕ) : Type 0 where
  pub few : 8 * length sums ≤ length items
  pub each : (k : ℕ) → k < length sums → slice_index sums k ≡ sum_by weight (take (8 * (k + 1)) items)
