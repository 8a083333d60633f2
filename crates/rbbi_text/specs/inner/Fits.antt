-- How many items fit into so much of a unit.
use Rattle.std.specs.Prelude.{◌≡◌, ℕ, ◌+◌, ◌<◌, ◌≤◌, List, length, take, sum_by}

-- as many items as may be, from the first on, weigh at most so much together
pub record IsFit {A : Type 0} (weight : A → ℕ) (items : List A) (most count units : ℕ) : Type 0 where
  pub within : count ≤ length items
  pub sum : units ≡ sum_by weight (take count items)
  pub fits : units ≤ most
  pub greatest : count < length items → most < sum_by weight (take (count + 1) items)
