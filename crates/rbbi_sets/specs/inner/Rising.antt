-- Where the ranges of a list begin and end, seen from a code point.
use Rattle.std.specs.Prelude.{ℕ, ◌<◌, ◌≤◌, List, [], ◌∷◌}
use Rattle.std.specs.List.Sorted.{IsPartitionPoint}
use Rattle.rbbi_model.specs.Ranges.{Range}

-- each range begins at this code point or before it
abbrev pub BeginUpTo : List Range → ℕ → Type 0
BeginUpTo [] c = Unit {0}
BeginUpTo (range ∷ ranges) c = (range.low ≤ c) × BeginUpTo ranges c

-- the number is that of the first range that doesn't end before the code point
abbrev pub IsNextRange : List Range → ℕ → ℕ → Type 0
IsNextRange ranges c next = IsPartitionPoint (λ range. range.high < c) (λ range. c ≤ range.high) ranges next
