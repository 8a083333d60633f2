-- How far a counter of steps rises.
use Rattle.std.specs.Prelude.{ℕ, ◌+◌, ◌≤◌}

-- steps never fall, and rise by at most so many
pub record RisesUpTo (most before after : ℕ) : Type 0 where
  pub more : before ≤ after
  pub cost : after ≤ before + most
