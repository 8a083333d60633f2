use Rattle.std.proofs.Common.{inl, inr, ⊎_elim}
use Rattle.std.proofs.lemmas.Result.{err_from_is_err_and}
use Rattle.rbbi_tool.proofs.Bases.{gives_them}
use Rattle.rbbi_tool.proofs.Verdicts.{verdicts_given}
use Rattle.rbbi_tool.proofs.command.conform.conform.Goals as goal

pub returns-in_err-output : goal.returns-in_err-output
returns-in_err-output g c =
    let p = err_from_is_err_and c.from_residual-in_err-output.result c.from_residual-in_err-output.ensures.1 in
    let basis = c.in_ok-table.ensures.table in
    rw (p.1, p.2) (⊎_elim inl (λ is. inr (inr (basis.0, basis.1, is))) c.in_err-output.ensures)

pub returns : goal.returns
returns g c =
    let basis = c.in_ok-table.ensures.table in
    let (tests, read, told) = c.in_ok-output.ensures in (
      basis.0,
      basis.1,
      (
        tests,
        read,
        (
          told.0,
          verdicts_given basis.0 c.in_ok-table.table tests told.0
              (gives_them c.same_marks_give_the_boundaries.ensures basis.0 c.in_ok-table.table basis.2) told.1,
          told.2,
        ),
      ),
    )
