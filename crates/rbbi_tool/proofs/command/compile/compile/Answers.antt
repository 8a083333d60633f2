use Rattle.std.proofs.Common.{refl, inl, inr, ⊎_elim}
use Rattle.std.proofs.lemmas.Result.{err_from_is_err_and}
use Rattle.rbbi_tool.proofs.command.compile.compile.Goals as goal

pub returns-in_err-canonical : goal.returns-in_err-canonical
returns-in_err-canonical g c =
    let p = err_from_is_err_and c.from_residual.result c.from_residual.ensures.1 in
    rw (p.1, p.2) (⊎_elim inl (λ is. inr (inl is)) c.in_err-canonical.ensures)

pub returns-in_err-output : goal.returns-in_err-output
returns-in_err-output g c =
    let p = err_from_is_err_and c.from_residual-in_err-output.result c.from_residual-in_err-output.ensures.1 in
    rw (p.1, p.2) (inl refl)

pub returns : goal.returns
returns g c =
    let served = c.in_ok-canonical.ensures in (
      served.0,
      served.1,
      record {
        lawful = served.1.2.2.lawful;
        canonical = c.in_ok-canonical.canonical;
        of_rules = served.2;
        is = c.in_ok-output.ensures;
      },
    )
