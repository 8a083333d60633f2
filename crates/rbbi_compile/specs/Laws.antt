-- That a text has one answer: its rules and their table, or its first fault.
use Rattle.std.specs.Prelude.{◌≡◌, ℕ, Bool, List}
use Rattle.rbbi_model.specs.Rules.{Rule}
use Rattle.rbbi_props.specs.Rows.{File}
use Rattle.rbbi_compile.specs.declared.error.CompileErr.{CompileErr}
use Rattle.rbbi_compile.specs.Rules.{MeansRules, HasRuleFault}
use Rattle.rbbi_compile.specs.Tables.{HasTableRules, HasFault}

-- The text means one list of rules at most, and has one fault at most, and not both.
pub record HasOneAnswer (files : List File) (ignored : Bool) (x : List ℕ) : Type 0 where
  pub rules : (these those : List Rule) → MeansRules files ignored x these → MeansRules files ignored x those → these ≡ those
  pub rule_fault : (e f : CompileErr) → HasRuleFault files ignored x e → HasRuleFault files ignored x f → e ≡ f
  pub no_rules : (rules : List Rule) (e : CompileErr) → MeansRules files ignored x rules → HasRuleFault files ignored x e → ⊥
  pub fault : (e f : CompileErr) → HasFault files ignored x e → HasFault files ignored x f → e ≡ f
  pub no_table : (rules : List Rule) (e : CompileErr) → HasTableRules files ignored x rules → HasFault files ignored x e → ⊥
