use Rattle.std.proofs.Common.{inl, inr, ⊎_elim, refl, subst, arith}
use Rattle.std.specs.Prelude.{[]}
use Rattle.std.proofs.lemmas.Result.{err_from_is_err_and}
use Rattle.rbbi_text.specs.Steps.{RisesUpTo}
use Rattle.rbbi_command.specs.Requests.{options_in}
use Rattle.rbbi_command.specs.Inputs.{inputs_in}
use Rattle.rbbi_command.specs.Stages.{gives}
use Rattle.rbbi_tool.specs.Texts.{text_stage}
use Rattle.rbbi_tool.specs.Filters.{filtered_stage, kind_in, AreReportedBy}
use Rattle.rbbi_tool.specs.Steps.{list_cost}
use Rattle.rbbi_tool.specs.inner.Steps.{given_bytes}
use Rattle.rbbi_tool.proofs.Bases.{gives_them}
use Rattle.rbbi_tool.proofs.Reported.{boundaries_given}
use Rattle.rbbi_tool.proofs.Counted.{rises_further, ends_early, reads_for}
use Rattle.rbbi_tool.proofs.command.lines.breaks.Goals as goal

pub returns-in_err-text-clause-exact : goal.returns-in_err-text-clause-exact
returns-in_err-text-clause-exact g c =
    let p = err_from_is_err_and c.from_residual-in_err-text.result c.from_residual-in_err-text.ensures.1 in
    let by = c.in_ok-filtered.ensures.exact in
    rw (p.1, p.2) (⊎_elim inl (λ is. inr (inr (by.0, by.1, inl is))) c.in_err-text.ensures.exact)

pub returns-clause-exact : goal.returns-clause-exact
returns-clause-exact g c =
    let by = c.in_ok-filtered.ensures.exact in
    let filter = c.in_ok-filtered.filtered.filter in
    let table = c.in_ok-filtered.filtered.table in
    let unit = c.args.options.now.unit in
    let x = c.in_ok-text.text in
    let boundaries = (kind_in filter unit table).boundaries x in (
      by.0,
      by.1,
      (
        x,
        c.in_ok-text.ensures.exact,
        (
          boundaries,
          subst (λ f. AreReportedBy by.0.basis f unit x boundaries) by.2.0
              (boundaries_given table filter c.searches_texts.ensures unit x c.in_ok-text.ensures.text by.0.basis
              (gives_them c.same_marks_give_the_boundaries.ensures by.0.basis table by.2.1)),
          refl,
        ),
      ),
    )

pub returns-in_err-filtered-clause-steps : goal.returns-in_err-filtered-clause-steps
returns-in_err-filtered-clause-steps g c =
    let ended = err_from_is_err_and c.from_residual.result c.from_residual.ensures.1 in
    rw ended.1 (λ end none. inl (ends_early c.filtered_from.ensures.steps (omega arith) none))

pub returns-in_err-text-clause-steps : goal.returns-in_err-text-clause-steps
returns-in_err-text-clause-steps g c =
    let ended = err_from_is_err_and c.from_residual-in_err-text.result c.from_residual-in_err-text.ensures.1 in
    rw ended.1 (λ end none. inl (ends_early c.filtered_from.ensures.steps (omega arith) none))

pub returns-clause-steps : goal.returns-clause-steps
returns-clause-steps g c =
    let by = c.in_ok-filtered.ensures.exact in
    let inputs = inputs_in c.args.inputs.now in
    let table = c.in_ok-filtered.filtered.table in
    let x = c.in_ok-text.text in
    λ end more.
    inr
    (reads_for (filtered_stage (options_in c.args.options.now) inputs) (text_stage inputs.text) (gives []) (λ filter t y commands. list_cost filter t y)
    (given_bytes inputs) c.args.steps.now c.filtered_from.new.steps end by.0 table x [] by.1 by.2.1 c.in_ok-text.ensures.exact refl
    (rises_further _ (given_bytes inputs) _ _ c.filtered_from.ensures.steps (omega arith))
    (subst (λ f. RisesUpTo (list_cost f table x) c.filtered_from.new.steps end) by.2.0 more))
