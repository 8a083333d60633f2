-- How many segments of a text have a status. A segment lies between two neighbouring boundaries, and has the statuses of its end.
use Rattle.std.specs.Prelude.{◌≡◌, ◌↔◌, ℕ, ◌-◌, ◌<◌, List, length, map, drop, count_by, Contains, ◌==◌}
use Rattle.rbbi_model.specs.Places.{largest}
use Rattle.rbbi_model.specs.Lists.{IsRising}
use Rattle.rbbi_model.specs.Boundaries.{Boundary}
use Rattle.rbbi_tally.specs.declared.counts.ValueCount.{ValueCount}

-- how many of the boundaries but the first have this as their largest status
abbrev pub count : List Boundary → ℕ → ℕ
count boundaries value = count_by (λ boundary. largest boundary.statuses == value) (drop 1 boundaries)

-- how many segments there are between the boundaries
abbrev pub segment_count : List Boundary → ℕ
segment_count boundaries = length boundaries - 1

-- the values that some segment has, which rise, each with its count
pub record AreCounts (boundaries : List Boundary) (counts : List ValueCount) : Type 0 where
  pub rising : IsRising (map (λ pair. pair.value) counts)
  pub exactly : (value number : ℕ) →
      Contains counts (record { value = value; count = number }) ↔ ((count boundaries value ≡ number) × (0 < number))
