-- Sets of code points, as lists of ranges.
use Rattle.std.specs.Prelude.{ℕ, ◌≤◌, ◌⊎◌, List, [], ◌∷◌}

-- the code points from one to another, both counted
pub record Range : Type 0 where
  pub low : ℕ
  pub high : ℕ

-- the range holds this code point
abbrev pub InRange : Range → ℕ → Type 0
InRange range c = (range.low ≤ c) × (c ≤ range.high)

-- some range of the list holds this code point
abbrev pub Has : List Range → ℕ → Type 0
Has [] c = ⊥
Has (range ∷ ranges) c = InRange range c ⊎ Has ranges c
