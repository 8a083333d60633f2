use Rattle.std.proofs.Common.{inl, inr, ⊎_elim}
use Rattle.std.specs.Str.{chars}
use Rattle.std.proofs.lemmas.Result.{err_from_is_err_and}
use Rattle.rbbi_compile.specs.Tables.{HasTableRules, HasFault}
use Rattle.rbbi_tool.specs.Rules.{rule_text_stage, told_stage}
use Rattle.rbbi_tool.proofs.StageLemmas.{stops_next}
use Rattle.rbbi_tool.proofs.RuleFiles.{told_refuses}
use Rattle.rbbi_tool.proofs.tables.table_of_rules.Goals as goal

pub returns-in_err-text : goal.returns-in_err-text
returns-in_err-text c =
    let p = err_from_is_err_and c.from_residual.result c.from_residual.ensures.1 in
    rw (p.1, p.2) (⊎_elim inl (λ is. inr (inl is)) c.in_err-text.ensures.exact)

pub returns-in-Ok : goal.returns-in-Ok
returns-in-Ok c =
    let compiled = c.in-Ok.ensures.table in
    (compiled.0, (chars c.in_ok-text.text.now, c.in_ok-text.ensures.exact, compiled.1), compiled.2)

pub returns-in-Err : goal.returns-in-Err
returns-in-Err c =
    let x = chars c.in_ok-text.text.now in
    let files = c.args.props.now in
    let ignored = c.args.ignored in
    stops_next (rule_text_stage c.args.bytes.now) (told_stage (HasTableRules files ignored) (HasFault files ignored)) x c.told.result
    c.in_ok-text.ensures.exact (told_refuses (HasFault files ignored x) x c.in-Err.error c.told.result c.in-Err.ensures.refused c.told.ensures)
