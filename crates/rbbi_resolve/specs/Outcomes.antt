-- What a rule file means.
use Rattle.std.specs.Prelude.{◌≡◌, ℕ, Bool, Option, Some, None, List, []}
use Rattle.std.specs.List.{AllZip}
use Rattle.rbbi_model.specs.Spelling as spelling
use Rattle.rbbi_model.specs.Rules as model
use Rattle.rbbi_props.specs.Rows.{File}
use Rattle.rbbi_tree.specs.Trees.{StatementTree}
use Rattle.rbbi_resolve.specs.Meanings.{Meaning, Stands}
use Rattle.rbbi_resolve.specs.Files.{RuleMeaning, faults_of, active_rules}
use Rattle.rbbi_resolve.specs.Counts.{size_fault}

-- both are absent, or the tree is that of the meaning
abbrev pub BothStand : List File → Option Meaning → Option spelling.Tree → Type 0
BothStand files None None = Unit {0}
BothStand files None (Some tree) = ⊥
BothStand files (Some meaning) None = ⊥
BothStand files (Some meaning) (Some tree) = Stands files meaning tree

-- the rule is the active one that means this
pub record IsRuleOf (files : List File) (meaning : RuleMeaning) (rule : model.Rule) : Type 0 where
  pub front : Stands files meaning.front rule.front
  pub rest : BothStand files meaning.rest rule.rest
  pub chained_into : rule.chained_into ≡ meaning.chained_into
  pub tag : rule.tag ≡ meaning.tag
  pub place : rule.place ≡ meaning.place

-- A file means rules: it has no fault, and these are its active rules, in order, with each name replaced and each leaf
-- with its set.
pub record Means (files : List File) (ignored : Bool) (statements : List StatementTree) (rules : List model.Rule) : Type 0 where
  pub faultless : faults_of files ignored statements ≡ []
  pub within : (end : ℕ) → size_fault end (active_rules files statements) ≡ None
  pub rules_in_order : AllZip (IsRuleOf files) (active_rules files statements) rules
