-- The characters that are kept before a place.
use Rattle.std.specs.Prelude.{◌≡◌, ℕ, ◌+◌, ◌-◌, ◌<◌, ◌≤◌, List, length, slice_index}
use Rattle.rbbi_filter.specs.declared.trail.Trail.{Trail}

-- the last 64 characters of the text before the place, as many as there are, the last one last
pub record IsTrail (x : List ℕ) (trail : Trail) : Type 0 where
  pub room : length trail.chars ≡ 64
  pub each : (k : ℕ) → k < 64 → 64 ≤ trail.at + k → slice_index trail.chars k ≡ slice_index x (trail.at + k - 64)
