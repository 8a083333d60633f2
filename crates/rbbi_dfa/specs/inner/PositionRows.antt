-- What is kept of the positions of rules, as rows of bits.
use Rattle.std.specs.Prelude.{◌≡◌, ℕ, ◌<◌, ◌≤◌, List, length}
use Rattle.std.specs.List.{All, AllPairs}
use Rattle.rbbi_model.specs.Rules.{largest_tag}
use Rattle.rbbi_bits.specs.NumberedRows.{listed_row}

-- what is marked where the position reads the last code point: a number of a look-ahead rule, or a status number
pub record PositionMark : Type 0 where
  pub position : ℕ
  pub mark : ℕ

-- How many categories and look-ahead rules there are, and how many words a row has. The first positions, those of them whose
-- rules may be chained into, the last positions, and for each position those that may follow it. For each category the positions
-- that read it. The last positions of look-ahead rules with the rules' numbers, those of their fronts, and the last positions of
-- tagged rules with the status numbers.
pub record PositionRows : Type 0 where
  pub categories : ℕ
  pub slashes : ℕ
  pub width : ℕ
  pub first : List ℕ
  pub chained : List ℕ
  pub last : List ℕ
  pub follow : List (List ℕ)
  pub reads : List (List ℕ)
  pub completed : List PositionMark
  pub fronts : List PositionMark
  pub tags : List PositionMark

-- Rows have one width, of at most 128 words, and there is one for each category. Numbers of look-ahead rules are below their count. Tags don't fall.
pub record AreRows (rows : PositionRows) : Type 0 where
  pub some_categories : 1 ≤ rows.categories
  pub few_categories : rows.categories ≤ 1000
  pub few_slashes : rows.slashes ≤ 32
  pub narrow : rows.width ≤ 128
  pub first : length rows.first ≡ rows.width
  pub chained : length rows.chained ≡ rows.width
  pub last : length rows.last ≡ rows.width
  pub follow : (i : ℕ) → i < length rows.follow → length (listed_row rows.follow i) ≡ rows.width
  pub many_reads : length rows.reads ≡ rows.categories
  pub reads : (i : ℕ) → i < length rows.reads → length (listed_row rows.reads i) ≡ rows.width
  pub completed : All (λ mark. mark.mark < rows.slashes) rows.completed
  pub fronts : All (λ mark. mark.mark < rows.slashes) rows.fronts
  pub small_tags : All (λ mark. mark.mark ≤ largest_tag) rows.tags
  pub tags : AllPairs (λ these those. these.mark ≤ those.mark) rows.tags
