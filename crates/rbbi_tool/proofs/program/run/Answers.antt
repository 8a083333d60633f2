use Rattle.std.proofs.Common.{◌∙◌, inl}
use Rattle.std.proofs.lemmas.Result.{err_from_is_err_and}
use Rattle.rbbi_command.specs.Requests.{asked_by}
use Rattle.rbbi_command.specs.Inputs.{inputs_in}
use Rattle.rbbi_tool.specs.inner.Prepared.{answer_of}
use Rattle.rbbi_tool.proofs.Runs.{ends_run, command_ends, ordered}
use Rattle.rbbi_tool.proofs.Calls.{reads_before, reads_asked, asked_nothing, asked_no_form}
use Rattle.rbbi_tool.proofs.Counted.{reads_nothing, reads_none, reads_told}
use Rattle.rbbi_tool.proofs.program.run.Goals as goal

pub returns-in_err-inputs-clause-comes : goal.returns-in_err-inputs-clause-comes
returns-in_err-inputs-clause-comes g c =
    let p = err_from_is_err_and c.from_residual-in_err-inputs.result c.from_residual-in_err-inputs.ensures.1 in
    let asks = rw c.in-Some.is at c.in_ok-request.ensures in
    rw (p.1, p.2) (ends_run _ _ _ _ _ asks c.deref.result.now c.in_err-inputs.field-0.0
    (c.deref.ensures.value ∙ c.in_ok-sources.ensures) c.in_err-inputs.ensures.refused)

pub returns-clause-comes : goal.returns-clause-comes
returns-clause-comes g c =
    let asks = rw c.in-Some.is at c.in_ok-request.ensures in
    command_ends _ _ _ _ _ asks c.deref.result.now (inputs_in c.in_ok-inputs.inputs) (answer_of c.prepare.result)
    (c.deref.ensures.value ∙ c.in_ok-sources.ensures) c.in_ok-inputs.ensures.read c.in_ok-inputs.ensures.calm c.prepare.ensures.exact

pub returns-in_err-request-clause-reading : goal.returns-in_err-request-clause-reading
returns-in_err-request-clause-reading g c =
    let told = err_from_is_err_and c.from_residual.result c.from_residual.ensures.1 in
    rw told.1 (reads_nothing _ _ _ c.args.steps.now)

pub returns-in_default-clause-reading : goal.returns-in_default-clause-reading
returns-in_default-clause-reading g c = reads_nothing _ _ _ c.args.steps.now

pub returns-in_err-sources-clause-reading : goal.returns-in_err-sources-clause-reading
returns-in_err-sources-clause-reading g c =
    let told = err_from_is_err_and c.from_residual-in_err-sources.result c.from_residual-in_err-sources.ensures.1 in
    rw told.1 (reads_nothing _ _ _ c.args.steps.now)

pub returns-in_err-inputs-clause-reading : goal.returns-in_err-inputs-clause-reading
returns-in_err-inputs-clause-reading g c =
    let told = err_from_is_err_and c.from_residual-in_err-inputs.result c.from_residual-in_err-inputs.ensures.1 in
    let here = rw c.in-Some.is at c.in_ok-request.ensures in
    let sources = c.deref.ensures.value ∙ c.in_ok-sources.ensures in
    rw told.1
    (record {
      order = λ request asks. ordered _ _ _ request asks here c.deref.result.now sources _ _ c.in_err-inputs.ensures.order;
      steps = λ request asks. reads_none _ request c.args.steps.now;
    })

pub returns-clause-reading : goal.returns-clause-reading
returns-clause-reading g c =
    let here = rw c.in-Some.is at c.in_ok-request.ensures in
    let sources = c.deref.ensures.value ∙ c.in_ok-sources.ensures in
    record {
      order = λ request asks. ordered _ _ _ request asks here c.deref.result.now sources _ _ c.in_ok-inputs.ensures.order;
      steps = λ request asks.
          reads_told _ _ (asked_by c.in-Some.request) request asks here c.deref.result.now (inputs_in c.in_ok-inputs.inputs) _ c.args.steps.now
          c.prepare.new.steps sources c.in_ok-inputs.ensures.read c.prepare.ensures.steps;
    }

pub returns-in_err-request-clause-calls : goal.returns-in_err-request-clause-calls
returns-in_err-request-clause-calls g c =
    let told = err_from_is_err_and c.from_residual.result c.from_residual.ensures.1 in
    rw (told.1, told.2) (asked_nothing g.F.Files.read_gives _ _)

pub returns-in_default-clause-calls : goal.returns-in_default-clause-calls
returns-in_default-clause-calls g c =
    let none = rw c.in_default.is at c.in_ok-request.ensures in
    asked_no_form g.F.Files.read_gives _ _ none

pub returns-in_err-sources-clause-calls : goal.returns-in_err-sources-clause-calls
returns-in_err-sources-clause-calls g c =
    let told = err_from_is_err_and c.from_residual-in_err-sources.result c.from_residual-in_err-sources.ensures.1 in
    rw (told.1, told.2) (asked_nothing g.F.Files.read_gives _ _)

pub returns-in_err-inputs-clause-calls : goal.returns-in_err-inputs-clause-calls
returns-in_err-inputs-clause-calls g c =
    let p = err_from_is_err_and c.from_residual-in_err-inputs.result c.from_residual-in_err-inputs.ensures.1 in
    let asks = rw c.in-Some.is at c.in_ok-request.ensures in
    rw (p.1, p.2) (reads_asked g.F.Files.read_gives _ _ asks c.deref.result.now (c.deref.ensures.value ∙ c.in_ok-sources.ensures) _ _ _
    (inl c.in_err-inputs.ensures.calls))

pub returns-clause-calls : goal.returns-clause-calls
returns-clause-calls g c =
    let asks = rw c.in-Some.is at c.in_ok-request.ensures in
    reads_asked g.F.Files.read_gives _ _ asks c.deref.result.now (c.deref.ensures.value ∙ c.in_ok-sources.ensures) _ _ (answer_of c.prepare.result)
    (reads_before g.F.Files.read_gives c.deref.result.now _ _ (asked_by c.in-Some.request) (inputs_in c.in_ok-inputs.inputs) (answer_of c.prepare.result)
    c.in_ok-inputs.ensures.calls c.prepare.ensures.exact)
