-- Where the entries of a run pass a place.
use Rattle.std.specs.Prelude.{ℕ, ◌<◌, ◌≤◌, List, length, take, drop}
use Rattle.std.specs.List.{AllByRecursion}
use Rattle.rbbi_model.specs.Runs.{Entry}

-- so many of the entries aren't past the place, and the others are
pub record AreUpTo (entries : List Entry) (i count : ℕ) : Type 0 where
  pub within : count ≤ length entries
  pub up_to : AllByRecursion (λ entry. entry.at ≤ i) (take count entries)
  pub past : AllByRecursion (λ entry. i < entry.at) (drop count entries)
