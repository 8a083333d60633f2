-- Partitions of an automaton's rows into classes, no two of which lead on alike.
use Rattle.std.specs.Prelude.{◌≡◌, ◌≢◌, AllPairs, ℕ, ◌*◌, ◌<◌, ◌≤◌, Bool, false, List, length, slice_index, slice_index_or}
use Rattle.std.specs.List.{AllByRecursion}
use Rattle.rbbi_model.specs.Tables.{Table, list_of, step, row_along}
use Rattle.rbbi_model.specs.ValidTables.{IsWay, IsValidList, BeginsWithZeroAlone, AreInOrder}
use Rattle.rbbi_model.specs.Marks.{marks_of}

-- the rows have different marks along some categories
abbrev pub IsToldApart : Table → ℕ → ℕ → Type 0
IsToldApart automaton this that =
    (way : List ℕ) × IsWay automaton way × (marks_of automaton (row_along automaton this way) ≢ marks_of automaton (row_along automaton that way))

-- Each row has a class, and each class a first row. Class 0 is row 0 alone, and row 1 is the first of class 1. Rows of one
-- class have the same marks. Where there are more than two rows, those of different classes are distinguished.
pub record IsPartition (automaton : Table) (classes firsts : List ℕ) : Type 0 where
  pub rows : length classes ≡ length automaton.rows
  pub some : 2 ≤ length firsts
  pub within : (row : ℕ) → row < length classes → slice_index classes row < length firsts
  pub first_row : (class : ℕ) → class < length firsts → slice_index firsts class < length classes
  pub first_class : (class : ℕ) → class < length firsts → slice_index classes (slice_index firsts class) ≡ class
  pub stop : slice_index firsts 0 ≡ 0
  pub start : slice_index firsts 1 ≡ 1
  pub alone : (row : ℕ) → row < length classes → slice_index classes row ≡ 0 → row ≡ 0
  pub alike : (row : ℕ) → row < length classes → marks_of automaton row ≡ marks_of automaton (slice_index firsts (slice_index classes row))
  pub apart : 3 ≤ length automaton.rows → (this that : ℕ) → this < length classes → that < length classes →
      slice_index classes this ≢ slice_index classes that → IsToldApart automaton this that

-- Rows of one class are all inside or all outside.
abbrev pub AreSides : List ℕ → List Bool → Type 0
AreSides classes inside =
    (this that : ℕ) → this < length classes → that < length classes → slice_index classes this ≡ slice_index classes that →
    slice_index_or inside this false ≡ slice_index_or inside that false

-- the row leads by the category to a row that is inside
abbrev pub leads_inside : Table → List Bool → ℕ → ℕ → Bool
leads_inside automaton inside category row = slice_index_or inside (step automaton row category) false

-- the row is of the class, and leads by the category to the side on which rows of the class don't stay
abbrev pub LeavesClass : Table → List ℕ → List Bool → ℕ → ℕ → Bool → ℕ → Type 0
LeavesClass automaton classes inside class category stays row =
    (slice_index classes row ≡ class) × (leads_inside automaton inside category row ≢ stays)

-- By every category a row leads into the class into which the first row of its class leads.
abbrev pub IsStable : Table → List ℕ → List ℕ → Type 0
IsStable automaton classes firsts =
    (row category : ℕ) → row < length classes → category < automaton.categories →
    slice_index classes (step automaton row category)
    ≡ slice_index classes (step automaton (slice_index firsts (slice_index classes row)) category)

-- The table has a row for each class: its marks are those of the class's first row, and by every category it leads to the class
-- into which that row leads. Its status lists are valid and in order, and each is some row's.
pub record IsMerged (automaton : Table) (classes firsts : List ℕ) (table : Table) : Type 0 where
  pub categories : table.categories ≡ automaton.categories
  pub slashes : table.slashes ≡ automaton.slashes
  pub rows : length table.rows ≡ length firsts
  pub cells : length table.cells ≡ length firsts * automaton.categories
  pub marks : (class : ℕ) → class < length firsts → marks_of table class ≡ marks_of automaton (slice_index firsts class)
  pub next : (class category : ℕ) → class < length firsts → category < automaton.categories →
      step table class category ≡ slice_index classes (step automaton (slice_index firsts class) category)
  pub list : (class : ℕ) → class < length firsts → list_of table class < length table.lists
  pub few_lists : length table.lists ≤ length firsts
  pub valid : AllByRecursion IsValidList table.lists
  pub first_list : BeginsWithZeroAlone table.lists
  pub in_order : AreInOrder table.lists
  pub named : (list : ℕ) → list < length table.lists → (class : ℕ) × (class < length firsts) × (list_of table class ≡ list)

-- A table with the marks of the automaton needs so many rows beside row 0: there are so many rows, each two distinguished.
pub record NeedsRows (automaton : Table) (count : ℕ) : Type 0 where
  pub rows : List ℕ
  pub many : length rows ≡ count
  pub are_rows : AllByRecursion (λ row. (row ≢ 0) × (row < length automaton.rows)) rows
  pub apart : AllPairs (IsToldApart automaton) rows

-- a stable partition of no more classes than a table may have rows
pub record IsMinimized (automaton : Table) (classes firsts : List ℕ) : Type 0 where
  pub partition : IsPartition automaton classes firsts
  pub stable : IsStable automaton classes firsts
  pub few : length firsts ≤ 4095
