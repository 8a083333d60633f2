-- Ranks of status lists: equal lists have one rank, and one that comes before another has a lesser.
use Rattle.std.specs.Prelude.{◌≡◌, ℕ, ◌<◌, List, [], length, slice_index, slice_index_or}
use Rattle.std.specs.List.{Contains}
use Rattle.rbbi_model.specs.ValidTables.{IsBefore}

-- each list comes before all later ones
abbrev pub AreOrderedLists : List (List ℕ) → Type 0
AreOrderedLists sorted = (i j : ℕ) → i < j → j < length sorted → IsBefore (slice_index_or sorted i []) (slice_index_or sorted j [])

-- the lists, each once and in order
pub record AreSorted (lists sorted : List (List ℕ)) : Type 0 where
  pub rising : AreOrderedLists sorted
  pub all : (i : ℕ) → i < length lists → Contains sorted (slice_index_or lists i [])

-- the rank of a list is its place among the sorted ones
pub record AreRanks (lists sorted : List (List ℕ)) (ranks : List ℕ) : Type 0 where
  pub many : length ranks ≡ length lists
  pub within : (i : ℕ) → i < length lists → slice_index ranks i < length sorted
  pub placed : (i : ℕ) → i < length lists → slice_index_or sorted (slice_index ranks i) [] ≡ slice_index_or lists i []

-- the lists in order, and the rank of each
pub record AreRanked (lists sorted : List (List ℕ)) (ranks : List ℕ) : Type 0 where
  pub order : AreSorted lists sorted
  pub places : AreRanks lists sorted ranks
