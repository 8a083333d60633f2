use Rattle.std.proofs.Common.{inl, inr, ⊎_elim}
use Rattle.std.proofs.lemmas.Result.{err_from_is_err_and}
use Rattle.rbbi_tool.proofs.command.demo.demo.Goals as goal

pub returns-in_err-table : goal.returns-in_err-table
returns-in_err-table g c =
    let p = err_from_is_err_and c.from_residual.result c.from_residual.ensures.1 in
    rw (p.1, p.2) (⊎_elim inl (λ is. inr (inr (c.in-Some.count, c.in-Some.ensures, inl is))) c.in_err-table.ensures)

pub returns : goal.returns
returns g c =
    let (rules, passed, compiled) = c.in_ok-table.ensures in
    let told = c.in_ok-output.ensures in (
      c.in-Some.count,
      c.in-Some.ensures,
      (
        rules,
        passed,
        record {
          summary = told.0;
          are = c.table_summaries_are_those_of_the_rules.ensures c.in_ok-table.table rules
              (c.same_marks_give_the_boundaries.ensures c.in_ok-table.table rules compiled.valid compiled.same) c.in-Some.count told.0 told.1;
          is = told.2;
        },
      ),
    )
