-- The numbers of the status lists that classes have.
use Rattle.std.specs.Prelude.{◌≡◌, ℕ, ◌/◌, ◌%◌, ◌<◌, Bool, true, false, List, [], length, slice_index, slice_index_or}
use Rattle.rbbi_model.specs.Tables.{Table, RowHead, empty_head, accept_of, fronts_of, list_of, step}
use Rattle.rbbi_dfa.specs.inner.Ranks.{AreOrderedLists}

-- the place of each class's status list among the sorted ones
pub record ArePlacesOf (automaton : Table) (places firsts class_places : List ℕ) : Type 0 where
  pub many : length class_places ≡ length firsts
  pub each : (class : ℕ) → class < length firsts →
      slice_index class_places class ≡ slice_index places (list_of automaton (slice_index firsts class))

-- the places that are some class's
pub record AreUsed (class_places : List ℕ) (used : List Bool) : Type 0 where
  pub all : (class : ℕ) → class < length class_places → slice_index_or used (slice_index class_places class) false ≡ true
  pub only : (place : ℕ) → slice_index_or used place false ≡ true → (class : ℕ) × (class < length class_places) × (slice_index class_places class ≡ place)

-- The lists at the used places among so many, in order, and the number of each used place's list.
pub record AreNumbered (used : List Bool) (sorted : List (List ℕ)) (count : ℕ) (numbers : List ℕ) (lists : List (List ℕ)) : Type 0 where
  pub many : length numbers ≡ count
  pub rising : AreOrderedLists lists
  pub within : (place : ℕ) → place < count → slice_index_or used place false ≡ true → slice_index numbers place < length lists
  pub same : (place : ℕ) → place < count → slice_index_or used place false ≡ true → slice_index_or lists (slice_index numbers place) [] ≡ slice_index_or
      sorted place []
  pub only : (list : ℕ) → list < length lists → (place : ℕ) × (place < count) × (slice_index_or used place false ≡ true) × (slice_index numbers place ≡ list)

-- so many cells of the merged table, class after class
pub record HaveCells (automaton : Table) (classes firsts : List ℕ) (count : ℕ) (cells : List ℕ) : Type 0 where
  pub many : length cells ≡ count
  pub each : (place : ℕ) → place < count →
      slice_index cells place ≡ slice_index classes (step automaton (slice_index firsts (place / automaton.categories)) (place % automaton.categories))

-- so many heads of the merged table: those of the first rows, with the numbers of their lists
pub record HaveHeads (automaton : Table) (firsts class_places numbers : List ℕ) (count : ℕ) (heads : List RowHead) : Type 0 where
  pub many : length heads ≡ count
  pub each : (class : ℕ) → class < count →
      slice_index_or heads class empty_head
      ≡ record {
        accept = accept_of automaton (slice_index firsts class);
        fronts = fronts_of automaton (slice_index firsts class);
        list = slice_index numbers (slice_index class_places class);
      }
