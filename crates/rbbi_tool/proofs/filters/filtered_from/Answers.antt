use Rattle.std.proofs.Common.{inl, inr, ⊎_elim, refl, sym, subst, arith}
use Rattle.std.specs.Prelude.{Err, Ok, None}
use Rattle.std.proofs.lemmas.Result.{err_from_is_err_and}
use Rattle.rbbi_command.specs.Requests.{options_in}
use Rattle.rbbi_command.specs.Inputs.{inputs_in}
use Rattle.rbbi_tool.specs.Filters.{filtered_by}
use Rattle.rbbi_tool.specs.inner.Stages.{Serves}
use Rattle.rbbi_tool.specs.inner.Filters.{IsFilteredBy}
use Rattle.rbbi_tool.proofs.Counted.{rises_further}
use Rattle.rbbi_tool.proofs.filters.filtered_from.Goals as goal

pub returns-in_err-table-in-None-clause-exact : goal.returns-in_err-table-in-None-clause-exact
returns-in_err-table-in-None-clause-exact g c =
    let p = err_from_is_err_and c.from_residual.result c.from_residual.ensures.1 in
    let options = options_in c.args.options.now in
    rw (p.1, p.2)
    (subst (λ f. Serves IsFilteredBy (filtered_by f options (inputs_in c.args.inputs.now)) (Err c.in_err-table-in-None.field-0.0)) (sym c.in-None.is)
    (⊎_elim inl (λ is. inr (inl is)) c.in_err-table-in-None.ensures.table))

pub returns-in_ok-table-in-None-clause-exact : goal.returns-in_ok-table-in-None-clause-exact
returns-in_ok-table-in-None-clause-exact g c =
    let by = c.in_ok-table-in-None.ensures.table in
    subst (λ f. Serves IsFilteredBy (filtered_by f (options_in c.args.options.now) (inputs_in c.args.inputs.now))
    (Ok (record { filter = None; table = c.in_ok-table-in-None.table })))
    (sym c.in-None.is)
    (record { filter = None; basis = by.0 }, (by.0, by.1, refl), (refl, by.2))

pub returns-in-Some-clause-exact : goal.returns-in-Some-clause-exact
returns-in-Some-clause-exact g c =
    subst (λ f. Serves IsFilteredBy (filtered_by f (options_in c.args.options.now) (inputs_in c.args.inputs.now)) c.table_behind_filter.result)
    (sym c.in-Some.is) c.table_behind_filter.ensures.exact

pub returns-in_err-table-in-None-clause-steps : goal.returns-in_err-table-in-None-clause-steps
returns-in_err-table-in-None-clause-steps g c = rises_further _ _ _ _ c.table_from.ensures.steps (omega arith)

pub returns-in_ok-table-in-None-clause-steps : goal.returns-in_ok-table-in-None-clause-steps
returns-in_ok-table-in-None-clause-steps g c = rises_further _ _ _ _ c.table_from.ensures.steps (omega arith)
