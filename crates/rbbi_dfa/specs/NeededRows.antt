-- The law by which words determine the number of rows of a least table.
use Rattle.std.specs.Prelude.{ℕ, ◌<◌, ◌≤◌, ◌↔◌, List, length}
use Rattle.rbbi_model.specs.Rules.{Rule, AreLawful}
use Rattle.rbbi_model.specs.Tables.{Table, head_of, step}
use Rattle.rbbi_model.specs.ValidTables.{AreValidRanges, BeginsWithZeroAlone, IsPlain, LeadsToZero, IsValidTable}
use Rattle.rbbi_model.specs.Marks.{HasSameMarks}
use Rattle.rbbi_model.specs.Compiled.{IsLeast, AreClasses, Needs}

-- What is wanted of a table's parts, as of those of every valid table, but with any number of rows: at least two, of which each leads to
-- rows. Nothing ends at rows 0 and 1, and the first leads to itself. The first status list is 0 alone, and the ranges are valid.
pub record HasRows (table : Table) : Type 0 where
  pub ranges : AreValidRanges table.categories table.ranges
  pub first_list : BeginsWithZeroAlone table.lists
  pub some : 2 ≤ length table.rows
  pub next : (row category : ℕ) → row < length table.rows → category < table.categories → step table row category < length table.rows
  pub stop : IsPlain (head_of table 0)
  pub start : IsPlain (head_of table 1)
  pub stop_leads : LeadsToZero table 0

-- Valid tables have them.
abbrev pub ValidTablesHaveRows : Type 0
ValidTablesHaveRows = (table : Table) → IsValidTable table → HasRows table

-- A least table for the rules has more rows than so many exactly where there are so many words, each two distinguished, that each lead somewhere.
abbrev pub RowsAreNeeded : Type 0
RowsAreNeeded =
    (table : Table) (rules : List Rule) (count : ℕ) → AreLawful rules → HasRows table → HasSameMarks table rules → IsLeast table →
    AreClasses rules table.categories table.ranges → 2 ≤ count → (count < length table.rows) ↔ Needs rules count
