-- From the text of a rule file to its table, and the first fault on the way.
use Rattle.std.specs.Prelude.{◌≢◌, ◌⊎◌, ℕ, Bool, List, Err}
use Rattle.rbbi_model.specs.Rules.{Rule, AreLawful}
use Rattle.rbbi_model.specs.Tables.{Table}
use Rattle.rbbi_model.specs.Compiled.{IsCompiled}
use Rattle.rbbi_cats.specs.CategoryLists.{HasClasses}
use Rattle.rbbi_dfa.specs.Builds.{BuildsTable, IsWithinLimits}
use Rattle.rbbi_dfa.specs.declared.error.BuildErr.TheVariants as build
use Rattle.rbbi_props.specs.Rows.{File}
use Rattle.rbbi_compile.specs.declared.error.CompileErr.{CompileErr}
use Rattle.rbbi_compile.specs.declared.error.CompileErr.TheVariants.{TooManyCategories, Size}
use Rattle.rbbi_compile.specs.Rules.{MeansRules, HasRuleFault}

-- the rules pass a limit, and this is the first that they pass
abbrev pub PassLimit : List Rule → CompileErr → Type 0
PassLimit rules TooManyCategories = HasClasses rules 1000
PassLimit rules (Size e) = (¬ HasClasses rules 1000) × BuildsTable rules (Err e) × (e ≢ build.Memory)
PassLimit rules error = ⊥

-- The text means these rules, and they have a table: there are at most 1,000 categories, category 0 counted, and its parts pass no limit.
pub record HasTableRules (files : List File) (ignored : Bool) (x : List ℕ) (rules : List Rule) : Type 0 where
  pub mean : MeansRules files ignored x rules
  pub lawful : AreLawful rules
  pub few : ¬ HasClasses rules 1000
  pub within : IsWithinLimits rules

-- the table is compiled from the rules that the text means
abbrev pub CompilesTo : List File → Bool → List ℕ → Table → Type 0
CompilesTo files ignored x table = (rules : List Rule) × HasTableRules files ignored x rules × IsCompiled table rules

-- the text has no table, and this is its first fault: it has no rules, or they pass a limit
abbrev pub HasFault : List File → Bool → List ℕ → CompileErr → Type 0
HasFault files ignored x e = HasRuleFault files ignored x e ⊎ ((rules : List Rule) × MeansRules files ignored x rules × PassLimit rules e)
