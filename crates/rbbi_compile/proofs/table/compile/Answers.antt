use Rattle.std.proofs.Common.{ℕ, Bool, List, Ok, Err, Result}
use Rattle.std.specs.Prelude.{IfOk}
use Rattle.std.specs.Str.{chars}
use Rattle.rbbi_model.specs.Rules.{Rule, AreLawful}
use Rattle.rbbi_model.specs.Tables.{Table}
use Rattle.rbbi_cats.specs.CategoryLists.{HasClasses}
use Rattle.rbbi_dfa.specs.Builds.{BuildsTable}
use Rattle.rbbi_props.specs.Rows.{File}
use Rattle.rbbi_resolve.specs.RuleLists.{rules_of}
use Rattle.rbbi_compile.specs.declared.error.CompileErr.{CompileErr}
use Rattle.rbbi_compile.specs.Rules.{MeansRules}
use Rattle.rbbi_compile.specs.Tables.{CompilesTo}
use Rattle.rbbi_compile.proofs.table.compile.Goals as goal

-- the table of the rules that the text means
compiles : (files : List File) (ignored : Bool) (x : List ℕ) (rules : List Rule) (result : Result Table CompileErr) → MeansRules files ignored x rules
    → AreLawful rules → IfOk result (λ _. ¬ HasClasses rules 1000) → IfOk result (λ table. BuildsTable rules (Ok table))
    → IfOk result (CompilesTo files ignored x)
compiles files ignored x rules (Ok table) mean lawful few built =
    (rules, record { mean = mean; lawful = lawful; few = few; within = built.1 }, built.0)
compiles files ignored x rules (Err e) mean lawful few built = tt

pub returns-clause-table : goal.returns-clause-table
returns-clause-table c =
    compiles c.args.props.now c.args.ignored (chars c.args.text.now) (rules_of c.in_ok-rules.rules) c.table_of.result c.in_ok-rules.ensures.rules
    c.in_ok-rules.ensures.lawful c.table_of.ensures.few c.table_of.ensures.table
