use Rattle.std.proofs.Common.{◌≡◌, List, inl, inr, ⊎_elim, subst}
use Rattle.std.specs.Prelude.{Ok, Err}
use Rattle.std.proofs.lemmas.Result.{err_from_is_err_and}
use Rattle.rbbi_props.specs.Rows.{File}
use Rattle.rbbi_command.specs.Requests.{options_in}
use Rattle.rbbi_command.specs.Inputs.{inputs_in}
use Rattle.rbbi_tool.specs.inner.Stages.{Meets}
use Rattle.rbbi_tool.specs.Properties.{property_files}
use Rattle.rbbi_tool.specs.Basis.{compiled_stage}
use Rattle.rbbi_tool.specs.Command.Same.{second_stage}
use Rattle.rbbi_tool.proofs.Bases.{read_serves}
use Rattle.rbbi_tool.proofs.StageLemmas.{stops_first, stops_next}
use Rattle.rbbi_tool.proofs.command.same.same.Goals as goal

pub returns-in_err-props : goal.returns-in_err-props
returns-in_err-props g c =
    let p = err_from_is_err_and c.from_residual.result c.from_residual.ensures.1 in
    rw (p.1, p.2) (⊎_elim inl (λ is. inr (inl (inl is))) c.in_err-props.ensures.exact)

pub returns-in_err-these : goal.returns-in_err-these
returns-in_err-these g c =
    let p = err_from_is_err_and c.from_residual-in_err-these.result c.from_residual-in_err-these.ensures.1 in
    let options = options_in c.args.options.now in
    let inputs = inputs_in c.args.inputs.now in
    let refusal = c.in_err-these.field-0.0 in
    rw (p.1, p.2)
    (stops_first (compiled_stage options inputs) (second_stage (property_files options.properties inputs.properties) options.ignored inputs) refusal
    (read_serves options inputs c.in_ok-props.ensures.exact c.in_ok-props.props c.bytes.result.now (Err refusal) c.in_ok-props.ensures.files
    c.bytes.ensures.bytes c.in_err-these.ensures))

pub returns-in_err-output : goal.returns-in_err-output
returns-in_err-output g c =
    let p = err_from_is_err_and c.from_residual-in_err-output.result c.from_residual-in_err-output.ensures.1 in
    let options = options_in c.args.options.now in
    let inputs = inputs_in c.args.inputs.now in
    let first =
    read_serves options inputs c.in_ok-props.ensures.exact c.in_ok-props.props c.bytes.result.now (Ok c.in_ok-these.these)
    c.in_ok-props.ensures.files c.bytes.ensures.bytes c.in_ok-these.ensures
    in
    let refusal = c.in_err-output.field-0.0 in
    let P : List File → Type 0 = λ files. Meets (λ output. output) (second_stage files options.ignored inputs first.0) (Err refusal) in
    rw (p.1, p.2)
    (stops_next (compiled_stage options inputs) (second_stage (property_files options.properties inputs.properties) options.ignored inputs) first.0
    refusal first.1 (subst P c.in_ok-props.ensures.files (c.in_err-output.ensures first.0 first.2)))

pub returns : goal.returns
returns g c =
    let options = options_in c.args.options.now in
    let inputs = inputs_in c.args.inputs.now in
    let first =
    read_serves options inputs c.in_ok-props.ensures.exact c.in_ok-props.props c.bytes.result.now (Ok c.in_ok-these.these)
    c.in_ok-props.ensures.files c.bytes.ensures.bytes c.in_ok-these.ensures
    in
    let P : List File → Type 0 = λ files. (second_stage files options.ignored inputs first.0).passes c.in_ok-output.output in
    (first.0, first.1, subst P c.in_ok-props.ensures.files (c.in_ok-output.ensures first.0 first.2))
