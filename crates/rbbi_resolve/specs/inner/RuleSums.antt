-- What the code counts of a rule.
use Rattle.std.specs.Prelude.{ℕ, ◌+◌, Bool, max, Option, Some, None, List, [], ◌++◌, option_map}
use Rattle.std.specs.Option.{option_map_or}
use Rattle.rbbi_tree.specs.Trees.{ExprTree}
use Rattle.rbbi_resolve.specs.declared.fault.Fault.{Fault}
use Rattle.rbbi_resolve.specs.declared.fault.FaultKind.TheVariants as kinds
use Rattle.rbbi_resolve.specs.declared.variables.Summary.{Summary}
use Rattle.rbbi_resolve.specs.Contexts.{Context}
use Rattle.rbbi_resolve.specs.Meanings.{leaves_in}
use Rattle.rbbi_resolve.specs.Expressions.{meaning_of_expr, height_of_expr}
use Rattle.rbbi_resolve.specs.Faults.{faults_where}
use Rattle.rbbi_resolve.specs.inner.Summaries.{IsCapped}

-- the faults at a slash, by whether the front and the rest spell the empty word
abbrev pub faults_where_empty : Option ℕ → Bool → Bool → List Fault
faults_where_empty None front rest = []
faults_where_empty (Some slash) front rest = faults_where front slash kinds.EmptyFront ++ faults_where rest slash kinds.EmptyRest

-- the counts of a rule: the sum of its leaves, and the greater height
pub record AreSumsOf (context : Context) (front : ExprTree) (rest : Option ExprTree) (summary : Summary) : Type 0 where
  pub leaf_sum : IsCapped 8193 (leaves_in (meaning_of_expr context front) + option_map_or leaves_in (option_map (meaning_of_expr context) rest) 0)
      summary.leaves
  pub height_sum : IsCapped 257 (max (height_of_expr context front) (option_map_or (height_of_expr context) rest 0)) summary.height
