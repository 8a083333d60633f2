-- How far the code has read a rule file.
use Rattle.std.specs.Prelude.{◌≡◌, ℕ, ◌<◌, Bool, Option, Some, None, List, [], ◌∷◌, ◌++◌, drop, length, slice_get, slice_index}
use Rattle.std.specs.Rc.{rc_value}
use Rattle.rbbi_props.specs.Rows.{File}
use Rattle.rbbi_tree.specs.Trees.{StatementTree}
use Rattle.rbbi_tree.specs.Values.{statement_trees}
use Rattle.rbbi_resolve.specs.declared.fault.Fault.{Fault}
use Rattle.rbbi_resolve.specs.declared.switches.Switches.{Switches}
use Rattle.rbbi_resolve.specs.declared.counts.Counts as declared
use Rattle.rbbi_resolve.specs.declared.file.Reading.{Reading}
use Rattle.rbbi_resolve.specs.declared.classes.Classes.{Classes}
use Rattle.rbbi_resolve.specs.Faults.{noted}
use Rattle.rbbi_resolve.specs.inner.ClassValues.{AreRightClasses}
use Rattle.rbbi_resolve.specs.inner.Covered.{CoversAll}
use Rattle.rbbi_classes.specs.Classes.{ClassBits}
use Rattle.rbbi_classes.specs.Divisions.{ClassDivision, stand_in}
use Rattle.rbbi_resolve.specs.inner.OwnLeaves.{IsLeafRow, StandAt, leaves_of_statement}
use Rattle.rbbi_resolve.specs.inner.Files.{context_at}
use Rattle.rbbi_resolve.specs.Files.{faults_from, faults_of, rules_from, active_rules}
use Rattle.rbbi_resolve.specs.inner.Contexts.{Variables, AreVariables}
use Rattle.rbbi_resolve.specs.inner.Switchings.{AreSwitches}
use Rattle.rbbi_resolve.specs.inner.Countings.{AreCounting}

-- The statements before this number were read: the variables and the switches are those before it, and what was noted and
-- counted goes on with the statements that are left.
pub record IsReadTo (files : List File) (classes : Classes) (ignored : Bool) (statements : List StatementTree) (variables : Variables) (least : Option Fault)
    (switches : Switches) (counts : declared.Counts) (number : ℕ) : Type 0 where
  pub classified : AreRightClasses files classes
  pub covered : CoversAll files (stand_in (rc_value classes.division)) statements
  pub defined : AreVariables files (rc_value classes.division).bounds statements variables number
  pub noted_so_far : noted least (faults_from ignored (context_at files statements number) (drop number statements)) ≡ noted None
      (faults_of files ignored statements)
  pub switched : AreSwitches switches (context_at files statements number)
  pub counted_so_far : AreCounting counts (rules_from (context_at files statements number) (drop number statements)) (active_rules files statements)

abbrev pub IsReading : Reading → ℕ → Type 0
IsReading r number = IsReadTo r.table.now r.classes r.dictionary_ignored (statement_trees r.statements.now) r.variables r.least r.switches r.counts number

-- the statements before this number have first leaves, from which on those of the statement stand
pub record AreLeavesTo (files : List File) (division : ClassDivision) (statements : List StatementTree) (firsts : List ℕ) (rows : List (Option ClassBits))
    (number : ℕ) : Type 0 where
  pub long : length firsts ≡ number
  pub each : (n : ℕ) (s : StatementTree) → n < number → slice_get statements n ≡ Some s →
      StandAt (IsLeafRow files division) rows (slice_index firsts n) (leaves_of_statement (context_at files statements n) s)

abbrev pub HasLeaves : Reading → ℕ → Type 0
HasLeaves r number = AreLeavesTo r.table.now (rc_value r.classes.division) (statement_trees r.statements.now) r.firsts.items r.leaves.rows.items number

-- so do those of this number, but they are still to be added
pub record HasBegun (r : Reading) (number : ℕ) : Type 0 where
  pub firsts : List ℕ
  pub is : r.firsts.items ≡ firsts ++ length r.leaves.rows.items ∷ []
  pub before : AreLeavesTo r.table.now (rc_value r.classes.division) (statement_trees r.statements.now) firsts r.leaves.rows.items number

-- the reading went on to this number
pub record ReadsOn (before after : Reading) (number : ℕ) : Type 0 where
  pub reading : IsReading after number
  pub leaves : HasLeaves after number
  pub statements : after.statements.now ≡ before.statements.now
  pub table : after.table.now ≡ before.table.now
  pub ignored : after.dictionary_ignored ≡ before.dictionary_ignored
