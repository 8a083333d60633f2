use Rattle.std.proofs.Common.{◌+◌, length, sym, ap, ◌∙◌, subst, ⊎_elim, arith}
use Rattle.std.proofs.lemmas.Bool.{false≢true}
use Rattle.rbbi_dfa.specs.inner.PositionRows.{PositionRows}
use Rattle.rbbi_dfa.proofs.MarkLoops.{IsAcceptUpTo, mark_read, accept_takes, accept_stays, accept_all}
use Rattle.rbbi_dfa.proofs.determinize.marks.accept.Goals as goal
use Rattle.rbbi_dfa.proofs.determinize.marks.accept.Goals.{then-has, else-has}

pub returns : goal.returns
returns c =
    let same = c.deref-mark-items.ensures.value ∙ ap (λ (r : PositionRows). r.completed) c.rows.view_is in
    accept_all c.args.rows.now c.args.set.now c.loop-mark.mark-index c.loop-mark.accept (omega (arith, ap length same)) (omega (arith, ap length same))
    (subst (λ l. IsAcceptUpTo l c.args.set.now c.args.rows.now.last c.loop-mark.mark-index c.loop-mark.accept) same c.loop-mark.invariant)

pub loop-mark-preserved : goal.loop-mark-preserved
loop-mark-preserved c =
    let marks = c.deref-mark-items.result.now in
    let i = c.loop-mark.mark-index in
    let set = c.args.set.now in
    let last = c.args.rows.now.last in
    let read = mark_read marks i c.mark.inside.position c.mark.inside.mark c.mark-item.result (omega arith) c.mark-item.is c.mark.view_is in
    elim c.if-has.branch [
      | then-has w ↦
          subst (IsAcceptUpTo marks set last (i + 1)) (sym w.accept-is)
          (⊎_elim
          (λ takes. subst (IsAcceptUpTo marks set last (i + 1)) (sym takes.1)
          (accept_takes marks set last i c.loop-mark.accept c.mark.inside.position c.mark.inside.mark read takes.0 (sym c.has.ensures ∙ w.if-has.true)
          c.loop-mark.invariant))
          (λ stays. subst (IsAcceptUpTo marks set last (i + 1)) (sym stays.2)
          (accept_stays marks set last i c.loop-mark.accept c.mark.inside.position c.mark.inside.mark read (λ holds. (stays.0, stays.1))
          c.loop-mark.invariant))
          w.least-accept.ensures)
      | else-has w ↦
          subst (IsAcceptUpTo marks set last (i + 1)) (sym w.accept-is)
          (accept_stays marks set last i c.loop-mark.accept c.mark.inside.position c.mark.inside.mark read
          (λ holds. absurd (false≢true (sym w.if-has.false ∙ c.has.ensures ∙ holds))) c.loop-mark.invariant)
    ]
