use Rattle.std.proofs.Common.{inl, inr, ⊎_elim, map, refl, arith}
use Rattle.std.specs.Prelude.{None}
use Rattle.std.proofs.lemmas.Result.{err_from_is_err_and}
use Rattle.rbbi_script.specs.Meaning.{meaning}
use Rattle.rbbi_tool.proofs.Bases.{gives_them}
use Rattle.rbbi_tool.specs.Steps.{tally_cost}
use Rattle.rbbi_tool.proofs.Tallied.{tally_told}
use Rattle.rbbi_tool.proofs.Counted.{rises_further, rises_by, ends_early, reads_for}
use Rattle.rbbi_command.specs.Requests.{options_in}
use Rattle.rbbi_command.specs.Inputs.{inputs_in}
use Rattle.rbbi_tool.specs.Texts.{text_stage}
use Rattle.rbbi_tool.specs.Scripts.{script_stage}
use Rattle.rbbi_tool.specs.Filters.{behind_filter}
use Rattle.rbbi_tool.specs.inner.Steps.{given_bytes}
use Rattle.rbbi_tool.proofs.command.lines.tally.Goals as goal

pub returns-in_err-text-clause-exact : goal.returns-in_err-text-clause-exact
returns-in_err-text-clause-exact g c =
    let p = err_from_is_err_and c.from_residual-in_err-text.result c.from_residual-in_err-text.ensures.1 in
    let basis = c.in_ok-table.ensures.table in
    rw (p.1, p.2) (⊎_elim inl (λ is. inr (inr (basis.0, basis.1, inl is))) c.in_err-text.ensures.exact)

pub returns-in_err-commands-clause-exact : goal.returns-in_err-commands-clause-exact
returns-in_err-commands-clause-exact g c =
    let p = err_from_is_err_and c.from_residual-in_err-commands.result c.from_residual-in_err-commands.ensures.1 in
    let basis = c.in_ok-table.ensures.table in
    rw (p.1, p.2) (⊎_elim inl (λ is. inr (inr (basis.0, basis.1, inr (c.in_ok-text.text, c.in_ok-text.ensures.exact, inl is)))) c.in_err-commands.ensures.exact)

pub returns-clause-exact : goal.returns-clause-exact
returns-clause-exact g c =
    let basis = c.in_ok-table.ensures.table in
    let table = c.in_ok-table.table in
    let x = c.in_ok-text.text in
    let commands = map meaning c.in_ok-commands.commands in (
      basis.0,
      basis.1,
      (
        x,
        c.in_ok-text.ensures.exact,
        (
          commands,
          c.in_ok-commands.ensures.exact,
          tally_told basis.0 table (gives_them c.same_marks_give_the_boundaries.ensures basis.0 table basis.2) x commands
              c.in_ok-text.ensures.text c.in_ok-commands.ensures.inserts,
        ),
      ),
    )

pub returns-in_err-table-clause-steps : goal.returns-in_err-table-clause-steps
returns-in_err-table-clause-steps g c =
    let ended = err_from_is_err_and c.from_residual.result c.from_residual.ensures.1 in
    rw ended.1 (λ end none. inl (ends_early c.table_from.ensures.steps (omega arith) none))

pub returns-in_err-text-clause-steps : goal.returns-in_err-text-clause-steps
returns-in_err-text-clause-steps g c =
    let ended = err_from_is_err_and c.from_residual-in_err-text.result c.from_residual-in_err-text.ensures.1 in
    rw ended.1 (λ end none. inl (ends_early c.table_from.ensures.steps (omega arith) none))

pub returns-in_err-commands-clause-steps : goal.returns-in_err-commands-clause-steps
returns-in_err-commands-clause-steps g c =
    let ended = err_from_is_err_and c.from_residual-in_err-commands.result c.from_residual-in_err-commands.ensures.1 in
    rw ended.1 (λ end none. inl (ends_early (rises_by _ _ _ c.table_from.new.steps _ c.table_from.ensures.steps c.commands_of.ensures.steps) (omega arith) none))

pub returns-clause-steps : goal.returns-clause-steps
returns-clause-steps g c =
    let basis = c.in_ok-table.ensures.table in
    let inputs = inputs_in c.args.inputs.now in
    λ end more.
    inr
    (reads_for (behind_filter (options_in c.args.options.now) inputs None) (text_stage inputs.text) (script_stage inputs.script) (λ filter. tally_cost)
    (given_bytes inputs) c.args.steps.now c.commands_of.new.steps end (record { filter = None; basis = basis.0 }) c.in_ok-table.table c.in_ok-text.text
    (map meaning c.in_ok-commands.commands) (basis.0, basis.1, refl) basis.2 c.in_ok-text.ensures.exact c.in_ok-commands.ensures.exact
    (rises_further _ (given_bytes inputs) _ _
    (rises_by _ _ _ c.table_from.new.steps _ c.table_from.ensures.steps c.commands_of.ensures.steps) (omega arith)) more)
