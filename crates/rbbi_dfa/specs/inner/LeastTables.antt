-- The least table with the marks of an automaton.
use Rattle.std.specs.Prelude.{◌≡◌, ◌*◌, ℕ, List, length, Result, Ok, Err}
use Rattle.rbbi_model.specs.Tables.{Table, CategoryRange, row_along}
use Rattle.rbbi_model.specs.ValidTables.{IsWay, AreValidLists, AreValidRows, AreFronted, IsValidTable}
use Rattle.rbbi_model.specs.Marks.{marks_of}
use Rattle.rbbi_model.specs.Compiled.{IsLeast}
use Rattle.rbbi_dfa.specs.inner.Partitions.{NeedsRows}
use Rattle.rbbi_dfa.specs.declared.error.BuildErr.{BuildErr}
use Rattle.rbbi_dfa.specs.declared.error.BuildErr.TheVariants.{TooManySets, TooManyRows, TooManyStatuses, Memory}

-- A least table, valid but for its ranges and safe pairs, with the marks of the automaton along all categories, which needs no more rows.
pub record IsLeastOf (automaton table : Table) : Type 0 where
  pub categories : table.categories ≡ automaton.categories
  pub slashes : table.slashes ≡ automaton.slashes
  pub cells : length table.cells ≡ length table.rows * table.categories
  pub lists : AreValidLists table.lists
  pub rows : AreValidRows table
  pub fronts : AreFronted table
  pub least : IsLeast table
  pub marks : (way : List ℕ) → IsWay automaton way → marks_of table (row_along table 1 way) ≡ marks_of automaton (row_along automaton 1 way)
  pub enough : ¬ NeedsRows automaton 4095

-- The least table, or too many rows exactly where more than 4,095 are needed, row 0 counted. `Memory` says nothing more.
abbrev pub GivesLeast : Table → Result Table BuildErr → Type 0
GivesLeast automaton (Ok table) = IsLeastOf automaton table
GivesLeast automaton (Err TooManySets) = ⊥
GivesLeast automaton (Err TooManyRows) = NeedsRows automaton 4095
GivesLeast automaton (Err TooManyStatuses) = ⊥
GivesLeast automaton (Err Memory) = Unit {0}

-- the table with these ranges and safe pairs in place of its own
abbrev pub finished : Table → List CategoryRange → List ℕ → Table
finished table ranges safe = record table { ranges = ranges; safe = safe }

-- The automaton's least table with these ranges and all safe pairs, or too many rows exactly where more than 4,095 are needed, row 0
-- counted. `Memory` doesn't depend on the table.
abbrev pub GivesTable : Table → List CategoryRange → Result Table BuildErr → Type 0
GivesTable automaton ranges (Ok table) =
    (least : Table) × IsLeastOf automaton least × (table ≡ finished least ranges table.safe) × IsValidTable table
GivesTable automaton ranges (Err TooManySets) = ⊥
GivesTable automaton ranges (Err TooManyRows) = NeedsRows automaton 4095
GivesTable automaton ranges (Err TooManyStatuses) = ⊥
GivesTable automaton ranges (Err Memory) = Unit {0}
