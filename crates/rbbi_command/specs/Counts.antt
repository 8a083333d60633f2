-- The number of characters that a demonstration is asked for.
use Rattle.std.specs.Prelude.{◌≡◌, ◌≤◌, ℕ, List, length, Some}
use Rattle.rbbi_text.specs.Numbers.{decimal}

-- the greatest number of characters
abbrev pub most_count : ℕ
most_count = 1000000

-- the word is 1 to 7 decimal digits that write the number, which is 1 to 1,000,000
pub record IsCount (word : List ℕ) (count : ℕ) : Type 0 where
  pub few : length word ≤ 7
  pub written : decimal most_count word ≡ Some count
  pub low : 1 ≤ count
  pub high : count ≤ most_count
