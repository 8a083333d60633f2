-- What compiling the positions of rules answers.
use Rattle.std.specs.Prelude.{List, Result, Ok, Err}
use Rattle.rbbi_model.specs.Rules.{Rule, AreLawful}
use Rattle.rbbi_model.specs.Tables.{Table}
use Rattle.rbbi_model.specs.LeafSets.{HasLeafSets}
use Rattle.rbbi_model.specs.Compiled.{AreClasses, HasStatusLists, IsCompiled, Needs}
use Rattle.rbbi_cats.specs.CategoryLists.{CategoryList}
use Rattle.rbbi_positions.specs.PositionMarks.{PositionMarks, ArePositions}
use Rattle.rbbi_dfa.specs.declared.error.BuildErr.{BuildErr}
use Rattle.rbbi_dfa.specs.declared.error.BuildErr.TheVariants.{TooManySets, TooManyRows, TooManyStatuses, Memory}

-- The rules are lawful, and the marks and the categories are those of their positions and of their leaves' sets.
pub record AreCompilable (rules : List Rule) (marks : PositionMarks) (cats : CategoryList) : Type 0 where
  pub lawful : AreLawful rules
  pub positions : ArePositions rules cats.count cats.ranges marks
  pub classes : AreClasses rules cats.count cats.ranges

-- there are more leaf sets that aren't empty, rows of the least table, or status lists than a table may have
abbrev pub HasTooManySets : List Rule → Type 0
HasTooManySets rules = HasLeafSets rules 16385

abbrev pub HasTooManyRows : List Rule → Type 0
HasTooManyRows rules = Needs rules 4095

abbrev pub HasTooManyStatuses : List Rule → Type 0
HasTooManyStatuses rules = HasStatusLists rules 4096

-- no limit is passed
pub record IsWithinLimits (rules : List Rule) : Type 0 where
  pub sets : ¬ HasTooManySets rules
  pub rows : ¬ HasTooManyRows rules
  pub statuses : ¬ HasTooManyStatuses rules

-- A table that is compiled from the rules where no limit is passed, and otherwise the first limit that is. `Memory` doesn't depend on the rules.
abbrev pub BuildsTable : List Rule → Result Table BuildErr → Type 0
BuildsTable rules (Ok table) = IsCompiled table rules × IsWithinLimits rules
BuildsTable rules (Err TooManySets) = HasTooManySets rules
BuildsTable rules (Err TooManyRows) = ¬ HasTooManySets rules × HasTooManyRows rules
BuildsTable rules (Err TooManyStatuses) = ¬ HasTooManySets rules × ¬ HasTooManyRows rules × HasTooManyStatuses rules
BuildsTable rules (Err Memory) = Unit {0}
