use Rattle.std.proofs.Common.{inl, inr, ⊎_elim, refl, subst, arith, map}
use Rattle.std.proofs.lemmas.Result.{err_from_is_err_and}
use Rattle.rbbi_model.specs.Scripts.{opened}
use Rattle.rbbi_text.specs.Steps.{RisesUpTo}
use Rattle.rbbi_script.specs.Meaning.{meaning}
use Rattle.rbbi_script.specs.Performing.{replies_in}
use Rattle.rbbi_command.specs.Requests.{options_in}
use Rattle.rbbi_command.specs.Inputs.{inputs_in}
use Rattle.rbbi_tool.specs.Texts.{text_stage}
use Rattle.rbbi_tool.specs.Scripts.{script_stage}
use Rattle.rbbi_tool.specs.Filters.{filtered_stage, kind_in, AreRepliesBasedOn}
use Rattle.rbbi_tool.specs.Steps.{replies_cost}
use Rattle.rbbi_tool.specs.inner.Steps.{given_bytes}
use Rattle.rbbi_tool.proofs.Bases.{gives_them}
use Rattle.rbbi_tool.proofs.Reported.{replies_given}
use Rattle.rbbi_tool.proofs.Counted.{rises_further, rises_by, ends_early, reads_for}
use Rattle.rbbi_tool.proofs.command.lines.run.Goals as goal

pub returns-in_err-text-clause-exact : goal.returns-in_err-text-clause-exact
returns-in_err-text-clause-exact g c =
    let p = err_from_is_err_and c.from_residual-in_err-text.result c.from_residual-in_err-text.ensures.1 in
    let by = c.in_ok-filtered.ensures.exact in
    rw (p.1, p.2) (⊎_elim inl (λ is. inr (inr (by.0, by.1, inl is))) c.in_err-text.ensures.exact)

pub returns-in_err-commands-clause-exact : goal.returns-in_err-commands-clause-exact
returns-in_err-commands-clause-exact g c =
    let p = err_from_is_err_and c.from_residual-in_err-commands.result c.from_residual-in_err-commands.ensures.1 in
    let by = c.in_ok-filtered.ensures.exact in
    rw (p.1, p.2) (⊎_elim inl (λ is. inr (inr (by.0, by.1, inr (c.in_ok-text.text, c.in_ok-text.ensures.exact, inl is)))) c.in_err-commands.ensures.exact)

pub returns-clause-exact : goal.returns-clause-exact
returns-clause-exact g c =
    let by = c.in_ok-filtered.ensures.exact in
    let filter = c.in_ok-filtered.filtered.filter in
    let table = c.in_ok-filtered.filtered.table in
    let unit = c.args.options.now.unit in
    let x = c.in_ok-text.text in
    let commands = map meaning c.in_ok-commands.commands in
    let replies = replies_in (kind_in filter unit table) (opened x) commands in (
      by.0,
      by.1,
      (
        x,
        c.in_ok-text.ensures.exact,
        (
          commands,
          c.in_ok-commands.ensures.exact,
          (
            replies,
            subst (λ f. AreRepliesBasedOn by.0.basis f unit x commands replies) by.2.0
                (replies_given table filter c.searches_texts.ensures unit x c.in_ok-text.ensures.text commands c.in_ok-commands.ensures.inserts
                c.table_replies_are_those_of_the_rules.ensures by.0.basis
                (gives_them c.same_marks_give_the_boundaries.ensures by.0.basis table by.2.1)),
            refl,
          ),
        ),
      ),
    )

pub returns-in_err-filtered-clause-steps : goal.returns-in_err-filtered-clause-steps
returns-in_err-filtered-clause-steps g c =
    let ended = err_from_is_err_and c.from_residual.result c.from_residual.ensures.1 in
    rw ended.1 (λ end none. inl (ends_early c.filtered_from.ensures.steps (omega arith) none))

pub returns-in_err-text-clause-steps : goal.returns-in_err-text-clause-steps
returns-in_err-text-clause-steps g c =
    let ended = err_from_is_err_and c.from_residual-in_err-text.result c.from_residual-in_err-text.ensures.1 in
    rw ended.1 (λ end none. inl (ends_early c.filtered_from.ensures.steps (omega arith) none))

pub returns-in_err-commands-clause-steps : goal.returns-in_err-commands-clause-steps
returns-in_err-commands-clause-steps g c =
    let ended = err_from_is_err_and c.from_residual-in_err-commands.result c.from_residual-in_err-commands.ensures.1 in
    rw ended.1 (λ end none. inl (ends_early (rises_by _ _ _ c.filtered_from.new.steps _ c.filtered_from.ensures.steps c.commands_of.ensures.steps) (omega arith) none))

pub returns-clause-steps : goal.returns-clause-steps
returns-clause-steps g c =
    let by = c.in_ok-filtered.ensures.exact in
    let inputs = inputs_in c.args.inputs.now in
    let unit = c.args.options.now.unit in
    let table = c.in_ok-filtered.filtered.table in
    let x = c.in_ok-text.text in
    let commands = map meaning c.in_ok-commands.commands in
    λ end more.
    inr
    (reads_for (filtered_stage (options_in c.args.options.now) inputs) (text_stage inputs.text) (script_stage inputs.script)
    (λ filter. replies_cost filter unit) (given_bytes inputs) c.args.steps.now c.commands_of.new.steps end by.0 table x commands by.1 by.2.1
    c.in_ok-text.ensures.exact c.in_ok-commands.ensures.exact
    (rises_further _ (given_bytes inputs) _ _
    (rises_by _ _ _ c.filtered_from.new.steps _ c.filtered_from.ensures.steps c.commands_of.ensures.steps) (omega arith))
    (subst (λ f. RisesUpTo (replies_cost f unit table x commands) c.commands_of.new.steps end) by.2.0 more))
