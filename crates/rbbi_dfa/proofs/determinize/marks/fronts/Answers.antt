use Rattle.std.proofs.Common.{◌<◌, ◌≤◌, ◌+◌, ◌^◌, length, sym, ap, ◌∙◌, subst, arith}
use Rattle.std.specs.List.{All}
use Rattle.std.proofs.lemmas.Bool.{false≢true}
use Rattle.rbbi_dfa.specs.inner.PositionRows.{PositionMark, PositionRows}
use Rattle.rbbi_dfa.proofs.MarkLoops.{AreFrontsUpTo, fronts_small, mark_read, mark_small, fronts_takes, fronts_stays, fronts_all}
use Rattle.rbbi_dfa.proofs.determinize.marks.fronts.Goals as goal
use Rattle.rbbi_dfa.proofs.determinize.marks.fronts.Goals.{then-has, else-has}

pub returns-clause-bits : goal.returns-clause-bits
returns-clause-bits c =
    let same = c.deref-mark-items.ensures.value ∙ ap (λ (r : PositionRows). r.fronts) c.rows.view_is in
    fronts_all c.args.rows.now c.args.set.now c.loop-mark.mark-index c.loop-mark.fronts (omega (arith, ap length same)) (omega (arith, ap length same))
    (subst (λ l. AreFrontsUpTo l c.args.set.now c.loop-mark.mark-index c.loop-mark.fronts) same c.loop-mark.invariant.0)

pub loop-mark-preserved : goal.loop-mark-preserved
loop-mark-preserved c =
    let marks = c.deref-mark-items.result.now in
    let i = c.loop-mark.mark-index in
    let set = c.args.set.now in
    let read = mark_read marks i c.mark.inside.position c.mark.inside.mark c.mark-item.result (omega arith) c.mark-item.is c.mark.view_is in
    let many = ap (λ (r : PositionRows). r.slashes) c.rows.view_is in
    let all = subst (λ l. All (λ mark. mark.mark < c.rows.inside.slashes) l) (sym c.deref-mark-items.ensures.value) c.rows.invariant.fronts in
    let small = mark_small marks c.rows.inside.slashes i all (omega arith) in
    let below : c.mark.inside.mark < c.args.rows.now.slashes = omega (arith, small, many, ap (λ (m : PositionMark). m.mark) read) in
    let slashes : c.args.rows.now.slashes ≤ 32 = omega (arith, many, c.rows.invariant.few_slashes) in
    elim c.if-has.branch [
      | then-has w ↦ (
        subst (AreFrontsUpTo marks set (i + 1)) (sym w.fronts-is)
            (fronts_takes marks set i c.loop-mark.fronts c.mark.inside.position c.mark.inside.mark read (omega (arith, below, slashes))
            (sym c.has.ensures ∙ w.if-has.true) c.loop-mark.invariant.0),
        subst (λ n. n < 2 ^ c.args.rows.now.slashes) (sym w.fronts-is)
            (fronts_small c.loop-mark.fronts c.mark.inside.mark c.args.rows.now.slashes below slashes c.loop-mark.invariant.1),
      )
      | else-has w ↦ (
        subst (AreFrontsUpTo marks set (i + 1)) (sym w.fronts-is)
            (fronts_stays marks set i c.loop-mark.fronts c.mark.inside.position c.mark.inside.mark read
            (λ holds. false≢true (sym w.if-has.false ∙ c.has.ensures ∙ holds)) c.loop-mark.invariant.0),
        omega (arith, w.fronts-is, c.loop-mark.invariant.1),
      )
    ]
