use Rattle.std.proofs.Common.{inl, inr, ⊎_elim, refl, arith}
use Rattle.std.specs.Prelude.{Some}
use Rattle.std.proofs.lemmas.Result.{err_from_is_err_and}
use Rattle.rbbi_tool.proofs.Counted.{rises_further, rises_by, rises_twice}
use Rattle.rbbi_tool.proofs.filters.table_behind_filter.Goals as goal

pub returns-in_err-filter-clause-exact : goal.returns-in_err-filter-clause-exact
returns-in_err-filter-clause-exact g c =
    let p = err_from_is_err_and c.from_residual-in_err-filter.result c.from_residual-in_err-filter.ensures.1 in
    rw (p.1, p.2) (⊎_elim inl (λ is. inr (inr (tt, c.in_ok-props.ensures.exact, inl is))) c.in_err-filter.ensures.exact)

pub returns-in_err-table-clause-exact : goal.returns-in_err-table-clause-exact
returns-in_err-table-clause-exact g c =
    let p = err_from_is_err_and c.from_residual-in_err-table.result c.from_residual-in_err-table.ensures.1 in
    rw (p.1, p.2)
    (⊎_elim inl (λ is. inr (inr (tt, c.in_ok-props.ensures.exact, inr (c.in_ok-filter.filter, c.in_ok-filter.ensures.exact, inl is))))
    c.in_err-table.ensures.table)

pub returns-clause-exact : goal.returns-clause-exact
returns-clause-exact g c =
    let by = c.in_ok-table.ensures.table in (
      record { filter = Some c.in_ok-filter.filter; basis = by.0 },
      (tt, c.in_ok-props.ensures.exact, (c.in_ok-filter.filter, c.in_ok-filter.ensures.exact, (by.0, by.1, refl))),
      (refl, by.2),
    )

pub returns-in_err-props-clause-steps : goal.returns-in_err-props-clause-steps
returns-in_err-props-clause-steps g c = rises_further _ _ _ _ c.properties_of.ensures.steps (omega arith)

pub returns-in_err-filter-clause-steps : goal.returns-in_err-filter-clause-steps
returns-in_err-filter-clause-steps g c =
    rises_further _ _ _ _ (rises_by _ _ _ c.properties_of.new.steps _ c.properties_of.ensures.steps c.filter_of.ensures.steps) (omega arith)

pub returns-in_err-table-clause-steps : goal.returns-in_err-table-clause-steps
returns-in_err-table-clause-steps g c =
    rises_further _ _ _ _
    (rises_twice _ _ _ _ _ (rises_by _ _ _ c.properties_of.new.steps _ c.properties_of.ensures.steps c.filter_of.ensures.steps) c.table_behind.ensures.steps)
    (omega arith)

pub returns-clause-steps : goal.returns-clause-steps
returns-clause-steps g c =
    rises_further _ _ _ _
    (rises_twice _ _ _ _ _ (rises_by _ _ _ c.properties_of.new.steps _ c.properties_of.ensures.steps c.filter_of.ensures.steps) c.table_behind.ensures.steps)
    (omega arith)
