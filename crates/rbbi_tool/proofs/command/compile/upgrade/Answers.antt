use Rattle.std.proofs.Common.{inl, inr, subst, ⊎_elim}
use Rattle.std.proofs.lemmas.Result.{err_from_is_err_and}
use Rattle.rbbi_tool.specs.Basis.{table_stage}
use Rattle.rbbi_tool.proofs.command.compile.upgrade.Goals as goal

pub returns-in_err-table : goal.returns-in_err-table
returns-in_err-table g c =
    let p = err_from_is_err_and c.from_residual.result c.from_residual.ensures.1 in
    rw (p.1, p.2)
    (⊎_elim inl (λ is. inr (inl (subst (λ bytes. (table_stage bytes).refuses c.in_err-table.field-0.0) c.bytes.ensures.bytes is))) c.in_err-table.ensures)

pub returns : goal.returns
returns g c = (
  c.in_ok-table.table,
  subst (λ bytes. (table_stage bytes).passes c.in_ok-table.table) c.bytes.ensures.bytes c.in_ok-table.ensures,
  c.in_ok-output.ensures,
)
