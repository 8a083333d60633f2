use Rattle.std.proofs.Common.{refl, inl, subst}
use Rattle.std.proofs.lemmas.Result.{err_from_is_err_and}
use Rattle.rbbi_command.specs.Stages.{passing}
use Rattle.rbbi_tool.specs.Basis.{compiled_bytes_stage}
use Rattle.rbbi_tool.specs.Command.Same.{as_second, IsComparison}
use Rattle.rbbi_tool.proofs.RuleFiles.{second_refuses}
use Rattle.rbbi_tool.proofs.SameMarks.{rules_compared}
use Rattle.rbbi_tool.proofs.StageLemmas.{stops_first}
use Rattle.rbbi_tool.proofs.command.same.compared_with.Goals as goal

pub returns-in-Err : goal.returns-in-Err
returns-in-Err g c =
    let props = c.args.props.now in
    let others = c.args.inputs.now.other_rules in
    λ rules compiled.
    stops_first (as_second (compiled_bytes_stage props c.args.ignored others)) (λ others. passing (IsComparison rules others)) c.told_of_second.result
    (second_refuses props c.args.ignored c.bytes.result.now others c.in-Err.refusal c.told_of_second.result c.bytes.ensures.bytes c.in-Err.ensures
    c.told_of_second.ensures)

pub returns-in_err-comparison_of : goal.returns-in_err-comparison_of
returns-in_err-comparison_of g c =
    let p = err_from_is_err_and c.from_residual.result c.from_residual.ensures.1 in
    λ rules compiled. rw (p.1, p.2) (inl refl)

pub returns : goal.returns
returns g c =
    let second = c.in-Ok.ensures in
    λ rules compiled. (
      second.0,
      subst (λ b. (compiled_bytes_stage c.args.props.now c.args.ignored b).passes second.0) c.bytes.ensures.bytes second.1,
      rules_compared rules second.0 c.args.these.now c.in-Ok.table compiled second.2 c.in_ok-comparison_of.field-0 c.in_ok-comparison_of.ensures,
    )
