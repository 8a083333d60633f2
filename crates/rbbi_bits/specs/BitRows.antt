-- Sets of numbers as rows of bits, 64 to a word, the least bit first.
use Rattle.std.specs.Prelude.{◌≡◌, ℕ, ◌/◌, ◌%◌, ◌<◌, ◌≤◌, Bool, List, length, slice_index, IsTrue}
use Rattle.rbbi_model.specs.Places.{has_bit}

-- whether the number is in the set
abbrev pub row_bit : List ℕ → ℕ → Bool
row_bit row place = has_bit (slice_index row (place / 64)) (place % 64)

-- the number is in the set
abbrev pub Holds : List ℕ → ℕ → Type 0
Holds row place = IsTrue (row_bit row place)

-- outside of these words the row is 0
pub record IsSpan (row : List ℕ) (from to : ℕ) : Type 0 where
  pub within : to ≤ length row
  pub before : (k : ℕ) → k < from → slice_index row k ≡ 0
  pub past : (k : ℕ) → to ≤ k → slice_index row k ≡ 0
