-- Characters of a text that stand next to each other.
use Rattle.std.specs.Prelude.{◌≡◌, ℕ, ◌+◌, ◌<◌, ◌≤◌, List, length, slice_index}

-- where they begin, and the characters
pub record Excerpt : Type 0 where
  pub from : ℕ
  pub items : List ℕ

-- the text has these characters from there on
pub record IsExcerptOf (x : List ℕ) (excerpt : Excerpt) : Type 0 where
  pub within : excerpt.from + length excerpt.items ≤ length x
  pub each : (k : ℕ) → k < length excerpt.items → slice_index excerpt.items k ≡ slice_index x (excerpt.from + k)
