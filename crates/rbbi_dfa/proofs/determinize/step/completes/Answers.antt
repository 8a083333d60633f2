use Rattle.std.proofs.Common.{sym, ap, ◌∙◌, arith}
use Rattle.rbbi_dfa.specs.inner.PositionRows.{PositionRows}
use Rattle.rbbi_dfa.proofs.Steps.{mark_found}
use Rattle.rbbi_dfa.proofs.determinize.step.completes.Goals as goal

pub returns-then-has-clause-some : goal.returns-then-has-clause-some
returns-then-has-clause-some c = λ _.
    let marks = c.deref-mark-items.ensures.value ∙ ap (λ (r : PositionRows). r.completed) c.rows.view_is in (
      c.mark.inside.position,
      c.mark.inside.mark,
      sym c.has.ensures ∙ c.if-has.true,
      mark_found c.args.rows.now.completed c.deref-mark-items.result.now c.loop-mark.mark-index c.mark.inside.position c.mark.inside.mark c.mark-item.result
          marks (omega arith) c.mark-item.is c.mark.view_is,
    )
