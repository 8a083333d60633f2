-- Automata: what determinising gives, before rows that can't be distinguished are merged. An automaton is seen as a table that has no ranges and no safe pairs.
use Rattle.std.specs.Prelude.{◌≡◌, ◌≢◌, ℕ, ◌+◌, ◌*◌, ◌^◌, ◌<◌, ◌≤◌, List, [], ◌∷◌, length}
use Rattle.std.specs.List.{AllByRecursion}
use Rattle.rbbi_model.specs.Tables.{Table, CategoryRange, accept_of, fronts_of, list_of, statuses_of, step, row_along}
use Rattle.rbbi_model.specs.ValidTables.{IsWay, IsValidList, LeadsToZero, AreFronted}
use Rattle.rbbi_model.specs.Marks.{no_marks, marks_of}

-- The accept number, the mask, the list and the next rows are within their bounds, and category 0 leads to row 0. Where no
-- rule ends the status list is 0 alone. Where a look-ahead rule is completed the mask is 0, and the row leads to row 0 only.
pub record IsAutomatonRow (automaton : Table) (row : ℕ) : Type 0 where
  pub accept : accept_of automaton row ≤ automaton.slashes + 1
  pub fronts : fronts_of automaton row < 2 ^ automaton.slashes
  pub list : list_of automaton row < length automaton.lists
  pub next : (category : ℕ) → category < automaton.categories → step automaton row category < length automaton.rows
  pub unread : step automaton row 0 ≡ 0
  pub unended : accept_of automaton row ≡ 0 → statuses_of automaton (list_of automaton row) ≡ 0 ∷ []
  pub completed : 2 ≤ accept_of automaton row → (fronts_of automaton row ≡ 0) × LeadsToZero automaton row

-- along some categories the row leads to one where something ends
abbrev pub LeadsToMarks : Table → ℕ → Type 0
LeadsToMarks automaton row =
    (way : List ℕ) × IsWay automaton way × (marks_of automaton (row_along automaton row way) ≢ no_marks)

-- What determinising promises. Rows 0 and 1 have no marks, and row 0 leads to itself. Each other row is reached from row 1
-- and leads to marks. On every way from row 1 into a row at which a look-ahead rule is completed, its front ends earlier.
pub record IsDetermined (automaton : Table) : Type 0 where
  pub cells : length automaton.cells ≡ length automaton.rows * automaton.categories
  pub some_categories : 1 ≤ automaton.categories
  pub few_categories : automaton.categories ≤ 1000
  pub few_slashes : automaton.slashes ≤ 32
  pub some : 2 ≤ length automaton.rows
  pub few : length automaton.rows ≤ 16386
  pub lists : AllByRecursion IsValidList automaton.lists
  pub each : (row : ℕ) → row < length automaton.rows → IsAutomatonRow automaton row
  pub stop : marks_of automaton 0 ≡ no_marks
  pub start : marks_of automaton 1 ≡ no_marks
  pub stop_leads : LeadsToZero automaton 0
  pub reached : (row : ℕ) → row ≢ 0 → row < length automaton.rows →
      (way : List ℕ) × IsWay automaton way × (row_along automaton 1 way ≡ row)
  pub lead : (row : ℕ) → 2 ≤ row → row < length automaton.rows → LeadsToMarks automaton row
  pub fronts : AreFronted automaton

-- the table with these ranges in place of its own
abbrev pub with_ranges : Table → List CategoryRange → Table
with_ranges table ranges = record table { ranges = ranges }
