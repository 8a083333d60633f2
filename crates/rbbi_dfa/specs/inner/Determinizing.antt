-- Determinised automata: each row is a set of positions, and leads by each category to the set that comes next.
use Rattle.std.specs.Prelude.{◌≡◌, ℕ, ◌+◌, ◌-◌, ◌*◌, ◌^◌, ◌<◌, ◌≤◌, ◌⊎◌, ◌↔◌, List, [], ◌∷◌, length, slice_index, slice_index_or, IsTrue}
use Rattle.rbbi_model.specs.Places.{has_bit}
use Rattle.rbbi_model.specs.Lists.{Member, IsRising}
use Rattle.rbbi_model.specs.Tables.{Table, RowHead, empty_head, list_of, step}
use Rattle.rbbi_model.specs.Marks.{Marks, no_marks, marks_of}
use Rattle.rbbi_bits.specs.BitRows.{Holds}
use Rattle.rbbi_bits.specs.NumberedRows.{listed_row}
use Rattle.rbbi_dfa.specs.inner.PositionRows.{PositionRows}
use Rattle.rbbi_dfa.specs.inner.PositionAutomata.{Marked}

-- a position of the set is followed by this one
abbrev pub CanFollow : PositionRows → List ℕ → ℕ → Type 0
CanFollow rows set next = (position : ℕ) × Holds set position × Holds (listed_row rows.follow position) next

-- a candidate that reads the category is last
abbrev pub EndsBy : PositionRows → List ℕ → ℕ → Type 0
EndsBy rows candidates category =
    (position : ℕ) × Holds candidates position × Holds (listed_row rows.reads category) position × Holds rows.last position

-- The position comes next by the category: it reads it and is a candidate, or first in a rule that is chained into where a candidate ends.
abbrev pub ComesBy : PositionRows → List ℕ → ℕ → ℕ → Type 0
ComesBy rows candidates category position =
    Holds (listed_row rows.reads category) position × (Holds candidates position ⊎ (Holds rows.chained position × EndsBy rows candidates category))

-- the set is what comes next by the category, and the candidates are what can follow the set
abbrev pub IsStep : PositionRows → List ℕ → ℕ → List ℕ → Type 0
IsStep rows candidates category next = (position : ℕ) → Holds next position ↔ ComesBy rows candidates category position

abbrev pub AreFollowers : PositionRows → List ℕ → List ℕ → Type 0
AreFollowers rows set candidates = (position : ℕ) → Holds candidates position ↔ CanFollow rows set position

-- what can follow one of the first so many positions
abbrev pub AreFollowersUpTo : List (List ℕ) → List ℕ → ℕ → List ℕ → Type 0
AreFollowersUpTo follow set i candidates =
    (p : ℕ) → Holds candidates p ↔ ((q : ℕ) × (q < i) × Holds set q × Holds (listed_row follow q) p)

-- a look-ahead rule is completed where the positions of the set read the last code point
abbrev pub Completes : PositionRows → List ℕ → Type 0
Completes rows set = (position : ℕ) × (mark : ℕ) × Holds set position × Marked rows.completed position mark

-- The set is reached along some categories: from the first positions, or from a set at which no look-ahead rule is completed.
pub data IsReached (rows : PositionRows) : List ℕ → Type 0 where
  FromFirst : (category : ℕ) (set : List ℕ) → category < rows.categories → IsStep rows rows.first category set → IsReached rows set
  FromSet : (earlier candidates : List ℕ) (category : ℕ) (set : List ℕ) → IsReached rows earlier → ¬ Completes rows earlier →
      AreFollowers rows earlier candidates →
      category < rows.categories → IsStep rows candidates category set → IsReached rows set

-- the set holds a position
abbrev pub IsSome : List ℕ → Type 0
IsSome set = (position : ℕ) × Holds set position

-- the sets hold different positions
abbrev pub AreDifferent : List ℕ → List ℕ → Type 0
AreDifferent these those = ¬ ((position : ℕ) → Holds these position ↔ Holds those position)

-- a row of so many words
pub record IsRow (width : ℕ) (row : List ℕ) : Type 0 where
  pub wide : length row ≡ width
  pub words : (k : ℕ) → slice_index row k < 2 ^ 64

-- sets that are reached, none of them empty, and all of them different
pub record AreReachedSets (rows : PositionRows) (sets : List (List ℕ)) : Type 0 where
  pub are_rows : (i : ℕ) → i < length sets → IsRow rows.width (listed_row sets i)
  pub reached : (i : ℕ) → i < length sets → IsReached rows (listed_row sets i)
  pub some : (i : ℕ) → i < length sets → IsSome (listed_row sets i)
  pub apart : (i j : ℕ) → i < j → j < length sets → AreDifferent (listed_row sets i) (listed_row sets j)

-- The cell for the category: 0 where nothing comes next, or else 2 more than the number of the set that does.
abbrev pub IsCell : PositionRows → List (List ℕ) → List ℕ → ℕ → ℕ → Type 0
IsCell rows sets candidates category cell =
    ((cell ≡ 0) × ((position : ℕ) → ¬ ComesBy rows candidates category position))
    ⊎ ((2 ≤ cell) × (cell < length sets + 2) × IsStep rows candidates category (listed_row sets (cell - 2)))

-- Some position of the set is marked so.
abbrev pub HasMark : List ℕ → (ℕ → ℕ → Type 0) → ℕ → Type 0
HasMark set IsMarked mark = (position : ℕ) × Holds set position × IsMarked position mark

-- The accept number is 2 more than the least number of a look-ahead rule that is completed, else 1 where a position is last, else 0.
pub record IsAccept (rows : PositionRows) (set : List ℕ) (accept : ℕ) : Type 0 where
  pub completed : (mark : ℕ) → HasMark set (Marked rows.completed) mark → (2 ≤ accept) × (accept ≤ mark + 2)
  pub is_completed : 2 ≤ accept → HasMark set (Marked rows.completed) (accept - 2)
  pub ended : (position : ℕ) → Holds set position → Holds rows.last position → 1 ≤ accept
  pub is_ended : accept ≡ 1 → (position : ℕ) × Holds set position × Holds rows.last position

-- the mask has the bits of the fronts that end
abbrev pub AreFrontsOf : PositionRows → List ℕ → ℕ → Type 0
AreFrontsOf rows set fronts = (mark : ℕ) → IsTrue (has_bit fronts mark) ↔ HasMark set (Marked rows.fronts) mark

-- the status numbers of the tags, rising, or 0 alone where there are none
pub record AreTagsOf (rows : PositionRows) (set : List ℕ) (statuses : List ℕ) : Type 0 where
  pub rising : IsRising statuses
  pub exactly : (tag : ℕ) → Member statuses tag ↔ (HasMark set (Marked rows.tags) tag ⊎ ((tag ≡ 0) × ((other : ℕ) → ¬ HasMark set (Marked rows.tags) other)))

-- what is marked at the set; there are no fronts where a look-ahead rule is completed
pub record AreMarksOf (rows : PositionRows) (set : List ℕ) (marks : Marks) : Type 0 where
  pub accept : IsAccept rows set marks.accept
  pub fronts : marks.accept < 2 → AreFrontsOf rows set marks.fronts
  pub no_fronts : 2 ≤ marks.accept → marks.fronts ≡ 0
  pub small_fronts : marks.fronts < 2 ^ rows.slashes
  pub tags : AreTagsOf rows set marks.statuses

-- The row of the set leads to row 0 only where a look-ahead rule is completed, and else to what comes next.
abbrev pub LeadsOn : PositionRows → List (List ℕ) → List ℕ → (ℕ → ℕ) → Type 0
LeadsOn rows sets set next =
    (Completes rows set × ((category : ℕ) → category < rows.categories → next category ≡ 0))
    ⊎ (¬ Completes rows set × ((candidates : List ℕ) × AreFollowers rows set candidates
    × ((category : ℕ) → category < rows.categories → IsCell rows sets candidates category (next category))))

-- the next row from a row, for a category, in cells that stand row after row
abbrev pub cell_at : PositionRows → List ℕ → ℕ → ℕ → ℕ
cell_at rows cells row category = slice_index cells (row * rows.categories + category)

-- the cells of rows 0 and 1, and of the first so many sets
pub record AreCellsUpTo (rows : PositionRows) (sets : List (List ℕ)) (cells : List ℕ) (count : ℕ) : Type 0 where
  pub many : length cells ≡ (count + 2) * rows.categories
  pub stop : (category : ℕ) → category < rows.categories → cell_at rows cells 0 category ≡ 0
  pub start : (category : ℕ) → category < rows.categories → IsCell rows sets rows.first category (cell_at rows cells 1 category)
  pub each : (i : ℕ) → i < count → LeadsOn rows sets (listed_row sets i) (cell_at rows cells (i + 2))

-- the positions that can come next after a set that is reached, or first
abbrev pub AreReachedCandidates : PositionRows → List ℕ → Type 0
AreReachedCandidates rows candidates =
    (candidates ≡ rows.first) ⊎ ((set : List ℕ) × IsReached rows set × (¬ Completes rows set) × AreFollowers rows set candidates)

-- the sets stand at the beginning of the others
abbrev pub Begin : List (List ℕ) → List (List ℕ) → Type 0
Begin these those = (length these ≤ length those) × ((i : ℕ) → i < length these → listed_row those i ≡ listed_row these i)

-- the cells of one more row were added
pub record AddsCells (rows : PositionRows) (sets : List (List ℕ)) (candidates old new : List ℕ) (count : ℕ) : Type 0 where
  pub many : length new ≡ length old + count
  pub kept : (k : ℕ) → k < length old → slice_index new k ≡ slice_index old k
  pub each : (category : ℕ) → category < count → IsCell rows sets candidates category (slice_index new (length old + category))

-- so many cells that are 0 were added
pub record AddsZeros (old new : List ℕ) (count : ℕ) : Type 0 where
  pub many : length new ≡ length old + count
  pub kept : (k : ℕ) → k < length old → slice_index new k ≡ slice_index old k
  pub zeros : (k : ℕ) → length old ≤ k → slice_index new k ≡ 0

-- the marks of a row by its head and the status lists
abbrev pub marks_by : List RowHead → List (List ℕ) → ℕ → Marks
marks_by heads lists row =
    let head = slice_index_or heads row empty_head in
    record { accept = head.accept; fronts = head.fronts; statuses = slice_index_or lists head.list [] }

-- nothing is marked at rows 0 and 1, and at the rows of the first so many sets what is at the set
pub record AreMarked (rows : PositionRows) (sets : List (List ℕ)) (heads : List RowHead) (lists : List (List ℕ)) (count : ℕ) : Type 0 where
  pub many : length heads ≡ count + 2
  pub many_lists : length lists ≡ count + 1
  pub stop : slice_index_or heads 0 empty_head ≡ empty_head
  pub start : slice_index_or heads 1 empty_head ≡ empty_head
  pub first_list : slice_index_or lists 0 [] ≡ 0 ∷ []
  pub numbered : (i : ℕ) → i < count → (slice_index_or heads (i + 2) empty_head).list ≡ i + 1
  pub lists_within : (row : ℕ) → row < count + 2 → (slice_index_or heads row empty_head).list < count + 1
  pub each : (i : ℕ) → i < count → AreMarksOf rows (listed_row sets i) (marks_by heads lists (i + 2))

-- there are at least so many sets that are reached, none of them empty, and all of them different
abbrev pub HasReachedSets : PositionRows → ℕ → Type 0
HasReachedSets rows count = (sets : List (List ℕ)) × (length sets ≡ count) × AreReachedSets rows sets

-- the automaton whose rows from 2 on are these sets
pub record IsDeterminized (rows : PositionRows) (sets : List (List ℕ)) (automaton : Table) : Type 0 where
  pub reached : AreReachedSets rows sets
  pub categories : automaton.categories ≡ rows.categories
  pub slashes : automaton.slashes ≡ rows.slashes
  pub many : length automaton.rows ≡ length sets + 2
  pub cells : length automaton.cells ≡ length automaton.rows * automaton.categories
  pub stop : (category : ℕ) → category < rows.categories → step automaton 0 category ≡ 0
  pub start : (category : ℕ) → category < rows.categories → IsCell rows sets rows.first category (step automaton 1 category)
  pub each : (i : ℕ) → i < length sets → LeadsOn rows sets (listed_row sets i) (step automaton (i + 2))
  pub lists_within : (row : ℕ) → row < length automaton.rows → list_of automaton row < length automaton.lists
  pub named : (list : ℕ) → list < length automaton.lists → (row : ℕ) × (row < length automaton.rows) × (list_of automaton row ≡ list)
  pub plain_stop : marks_of automaton 0 ≡ no_marks
  pub plain_start : marks_of automaton 1 ≡ no_marks
  pub marks : (i : ℕ) → i < length sets → AreMarksOf rows (listed_row sets i) (marks_of automaton (i + 2))

-- what the loop over the sets keeps
pub record IsLed (rows : PositionRows) (sets : List (List ℕ)) (cells candidates next : List ℕ) (i : ℕ) : Type 0 where
  pub reached : AreReachedSets rows sets
  pub within : i ≤ length sets
  pub led : AreCellsUpTo rows sets cells i
  pub wide : length candidates ≡ rows.width
  pub wide_next : length next ≡ rows.width
