-- Which of some ranges that rise holds a code point, and a range that is valid after another.
use Rattle.std.specs.Prelude.{◌≢◌, ℕ, ◌+◌, ◌<◌, ◌≤◌, List, length, slice_index_or}
use Rattle.rbbi_model.specs.Tables.{CategoryRange}
use Rattle.rbbi_model.specs.ValidTables.{IsWithin}

-- where the range with this number starts
abbrev pub start_of : List CategoryRange → ℕ → ℕ
start_of ranges range = (slice_index_or ranges range (record { start = 0; category = 0 })).start

-- the range is valid after the one before it
abbrev pub IsValidBehind : ℕ → CategoryRange → CategoryRange → Type 0
IsValidBehind categories previous range = (previous.start < range.start) × (previous.category ≢ range.category) × IsWithin categories range

-- The range begins at c or before it, and the next one doesn't begin before c.
pub record IsUpTo (ranges : List CategoryRange) (range c : ℕ) : Type 0 where
  pub within : range < length ranges
  pub begins : start_of ranges range ≤ c
  pub ends : range + 1 < length ranges → c ≤ start_of ranges (range + 1)

-- the range holds the code point
pub record HoldsCodePoint (ranges : List CategoryRange) (range c : ℕ) : Type 0 where
  pub within : range < length ranges
  pub begins : start_of ranges range ≤ c
  pub ends : range + 1 < length ranges → c < start_of ranges (range + 1)
