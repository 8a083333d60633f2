use Rattle.std.proofs.Common.{◌≡◌, length, sym, ap, ◌∙◌, subst, arith}
use Rattle.rbbi_command.specs.Words.{operands_of}
use Rattle.rbbi_command.specs.Requests.{options_in, asked_by}
use Rattle.rbbi_command.specs.Inputs.{inputs_in}
use Rattle.rbbi_tool.specs.inner.Stages.{Meets}
use Rattle.rbbi_tool.specs.inner.Prepared.{answer_of, rest_after, ReadsByEnd}
use Rattle.rbbi_tool.specs.inner.Steps.{given_bytes}
use Rattle.rbbi_tool.specs.Steps.{CommandReads}
use Rattle.rbbi_tool.specs.Command.Compile.{compile_stage}
use Rattle.rbbi_tool.specs.Command.Upgrade.{upgrade_stage}
use Rattle.rbbi_tool.specs.Program.{command_stage}
use Rattle.rbbi_tool.proofs.prepare.prepare.Goals as goal

pub word-requires : goal.word-requires
word-requires g c =
    let count : length c.args.request.now.operands.now ≡ 2 =
    c.requires.count ∙ ap (λ k. length (operands_of k c.args.request.now.options.by_table)) c.in-Compile.is in
    omega arith

pub word-requires-in-Upgrade : goal.word-requires-in-Upgrade
word-requires-in-Upgrade g c =
    let count : length c.args.request.now.operands.now ≡ 2 =
    c.requires.count ∙ ap (λ k. length (operands_of k c.args.request.now.options.by_table)) c.in-Upgrade.is in
    omega arith

pub word-requires-in-Demo : goal.word-requires-in-Demo
word-requires-in-Demo g c =
    let count : length c.args.request.now.operands.now ≡ 1 =
    c.requires.count ∙ ap (λ k. length (operands_of k c.args.request.now.options.by_table)) c.in-Demo.is in
    omega arith

pub returns-in-Compile-clause-exact : goal.returns-in-Compile-clause-exact
returns-in-Compile-clause-exact g c =
    let inputs = inputs_in c.args.inputs.now in
    subst (λ k. Meets (λ output. output) (command_stage k (asked_by c.args.request.now) inputs) (answer_of c.compile.result)) (sym c.in-Compile.is)
    (subst (λ n. Meets (λ output. output) (compile_stage (options_in c.args.request.now.options) inputs n) (answer_of c.compile.result)) c.word.ensures
    c.compile.ensures)

pub returns-in-Upgrade-clause-exact : goal.returns-in-Upgrade-clause-exact
returns-in-Upgrade-clause-exact g c =
    let inputs = inputs_in c.args.inputs.now in
    subst (λ k. Meets (λ output. output) (command_stage k (asked_by c.args.request.now) inputs) (answer_of c.upgrade.result)) (sym c.in-Upgrade.is)
    (subst (λ n. Meets (λ output. output) (upgrade_stage inputs n) (answer_of c.upgrade.result)) c.word-in-Upgrade.ensures
    c.upgrade.ensures)

pub returns-in-Breaks-clause-steps : goal.returns-in-Breaks-clause-steps
returns-in-Breaks-clause-steps g c =
    let inputs = inputs_in c.args.inputs.now in
    subst (λ k. ReadsByEnd (rest_after c.breaks.result) (CommandReads k (asked_by c.args.request.now).options inputs (given_bytes inputs))
    c.args.steps.now c.breaks.new.steps) (sym c.in-Breaks.is) c.breaks.ensures.steps

pub returns-in-Run-clause-steps : goal.returns-in-Run-clause-steps
returns-in-Run-clause-steps g c =
    let inputs = inputs_in c.args.inputs.now in
    subst (λ k. ReadsByEnd (rest_after c.run.result) (CommandReads k (asked_by c.args.request.now).options inputs (given_bytes inputs))
    c.args.steps.now c.run.new.steps) (sym c.in-Run.is) c.run.ensures.steps

pub returns-in-Tally-clause-steps : goal.returns-in-Tally-clause-steps
returns-in-Tally-clause-steps g c =
    let inputs = inputs_in c.args.inputs.now in
    subst (λ k. ReadsByEnd (rest_after c.tally.result) (CommandReads k (asked_by c.args.request.now).options inputs (given_bytes inputs))
    c.args.steps.now c.tally.new.steps) (sym c.in-Tally.is) c.tally.ensures.steps
