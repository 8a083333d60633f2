use Rattle.std.proofs.Common.{inl, inr, ⊎_elim}
use Rattle.std.proofs.lemmas.Result.{err_from_is_err_and}
use Rattle.rbbi_tool.proofs.tables.table_from.Goals as goal

pub returns-in_err-props-clause-table : goal.returns-in_err-props-clause-table
returns-in_err-props-clause-table g c =
    let p = err_from_is_err_and c.from_residual.result c.from_residual.ensures.1 in
    rw (p.1, p.2) (⊎_elim inl (λ is. inr (inl is)) c.in_err-props.ensures.exact)
