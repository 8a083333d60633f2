-- The active rules that the code has built so far.
use Rattle.std.specs.Prelude.{◌≡◌, ℕ, ◌<◌, ◌≤◌, Option, Some, None, List, [], ◌++◌, length, drop, Contains}
use Rattle.std.specs.Option.{option_map_or}
use Rattle.std.specs.List.{AllByRecursion, AllZip, flat_map}
use Rattle.rbbi_model.specs.Ranges.{Range}
use Rattle.rbbi_props.specs.Rows.{File}
use Rattle.rbbi_tree.specs.Trees.{StatementTree}
use Rattle.rbbi_resolve.specs.declared.rules.Tree.{Tree}
use Rattle.rbbi_resolve.specs.declared.rules.Rule.{Rule}
use Rattle.rbbi_resolve.specs.declared.switches.Switches.{Switches}
use Rattle.rbbi_resolve.specs.Meanings.{Meaning}
use Rattle.rbbi_resolve.specs.Files.{RuleMeaning, rules_from, active_rules}
use Rattle.rbbi_resolve.specs.inner.Files.{context_at}
use Rattle.rbbi_resolve.specs.inner.Switchings.{AreSwitches}
use Rattle.rbbi_resolve.specs.RuleTrees.{numbers_of}
use Rattle.rbbi_resolve.specs.RuleLists.{numbers_of_rule, IsLeafSet}
use Rattle.rbbi_resolve.specs.inner.Builders.{IsPart, IsBuilder}
use Rattle.rbbi_resolve.specs.inner.Contexts.{files_of, sets_of}
use Rattle.rbbi_resolve.specs.declared.build.Builder.{Builder}
use Rattle.rbbi_resolve.specs.declared.context.Context.{Context}
use Rattle.rbbi_resolve.specs.declared.build.FileLeaves.{FileLeaves}
use Rattle.rbbi_tree.specs.Values.{statement_trees}

-- both are absent, or the tree stands for the meaning
abbrev pub IsRest : List File → List (List Range) → Option Meaning → Option Tree → Type 0
IsRest files sets None None = Unit {0}
IsRest files sets None (Some tree) = ⊥
IsRest files sets (Some meaning) None = ⊥
IsRest files sets (Some meaning) (Some tree) = IsPart files sets meaning tree

-- the rest was built, and the sets past the old ones are those of its leaves
pub record IsRestBuilt (files : List File) (old : ℕ) (sets : List (List Range)) (meaning : Option Meaning) (tree : Option Tree) : Type 0 where
  pub rest : IsRest files sets meaning tree
  pub fresh : (number : ℕ) → old ≤ number → number < length sets → Contains (option_map_or numbers_of tree []) number

-- the rule is the active one that means this
pub record IsRuleBuilt (files : List File) (sets : List (List Range)) (meaning : RuleMeaning) (rule : Rule) : Type 0 where
  pub front : IsPart files sets meaning.front rule.front
  pub rest : IsRest files sets meaning.rest rule.rest
  pub chained_into : rule.chained_into ≡ meaning.chained_into
  pub tag : rule.tag ≡ meaning.tag
  pub place : rule.place ≡ meaning.place

-- the active rules of the statements before this number were built, and each set is that of one of their leaves
pub record AreRulesTo (context : Context) (leaves : FileLeaves) (builder : Builder) (switches : Switches) (rules : List Rule) (number : ℕ) : Type 0 where
  pub sound : IsBuilder context leaves builder
  pub switched : AreSwitches switches (context_at (files_of context) (statement_trees context.statements.now) number)
  pub done : List RuleMeaning
  pub every : done ++ rules_from (context_at (files_of context) (statement_trees context.statements.now) number)
      (drop number (statement_trees context.statements.now)) ≡ active_rules (files_of context) (statement_trees context.statements.now)
  pub each : AllZip (IsRuleBuilt (files_of context) (sets_of context builder.rows.items)) done rules
  pub used : (n : ℕ) → n < length (sets_of context builder.rows.items) → Contains (flat_map numbers_of_rule rules) n

-- all active rules were built, each set is that of one of their leaves, and a leaf may have it
pub record AreAllRules (files : List File) (statements : List StatementTree) (sets : List (List Range)) (rules : List Rule) : Type 0 where
  pub each : AllZip (IsRuleBuilt files sets) (active_rules files statements) rules
  pub used : (n : ℕ) → n < length sets → Contains (flat_map numbers_of_rule rules) n
  pub formed : AllByRecursion IsLeafSet sets
