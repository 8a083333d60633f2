use Rattle.std.proofs.Common.{inl, inr, ⊎_elim, ap, ◌∙◌, subst}
use Rattle.std.specs.Prelude.{Result, Ok, Err}
use Rattle.std.proofs.lemmas.Result.{err_from_is_err_and}
use Rattle.rbbi_resolve.specs.RuleLists.{rules_of}
use Rattle.rbbi_command.specs.Refusals.{printed}
use Rattle.rbbi_command.specs.Requests.{options_in}
use Rattle.rbbi_command.specs.Inputs.{inputs_in}
use Rattle.rbbi_tool.specs.Rules.{rules_stage}
use Rattle.rbbi_tool.proofs.RuleFiles.{rules_read}
use Rattle.rbbi_tool.proofs.command.check.check.Goals as goal

pub returns-in_err-props : goal.returns-in_err-props
returns-in_err-props g c =
    let p = err_from_is_err_and c.from_residual.result c.from_residual.ensures.1 in
    rw (p.1, p.2) (⊎_elim inl (λ is. inr (inl (inl is))) c.in_err-props.ensures.exact)

pub returns-in_err-rules : goal.returns-in_err-rules
returns-in_err-rules g c =
    let p = err_from_is_err_and c.from_residual-in_err-rules.result c.from_residual-in_err-rules.ensures.1 in
    rw (p.1, p.2) (⊎_elim inl (λ is. inr (inl is))
    (rules_read (options_in c.args.options.now) (inputs_in c.args.inputs.now) c.in_ok-props.props c.bytes.result.now (Err c.in_err-rules.field-0.0)
    c.in_ok-props.ensures.exact c.in_ok-props.ensures.files c.bytes.ensures.bytes c.in_err-rules.ensures))

pub returns : goal.returns
returns g c = (
  rules_of c.in_ok-rules.rules,
  rules_read (options_in c.args.options.now) (inputs_in c.args.inputs.now) c.in_ok-props.props c.bytes.result.now (Ok c.in_ok-rules.rules)
      c.in_ok-props.ensures.exact c.in_ok-props.ensures.files c.bytes.ensures.bytes c.in_ok-rules.ensures,
  c.printed.ensures ∙ ap printed c.in_ok-bytes.ensures,
)
