use Rattle.std.proofs.Common.{refl, sym, ap, ◌∙◌, arith}
use Rattle.rbbi_bits.specs.BitRows.{row_bit}
use Rattle.rbbi_bits.proofs.Rows.{and_holds, or_and_holds}
use Rattle.rbbi_dfa.specs.inner.PositionRows.{PositionRows}
use Rattle.rbbi_dfa.proofs.Steps.{step_with, step_without}
use Rattle.rbbi_dfa.proofs.determinize.step.step.Goals as goal

pub returns-then-meet-clause-step : goal.returns-then-meet-clause-step
returns-then-meet-clause-step c =
    let both = c.intersect.new.row in
    let reads = c.readers-reads.result.now in
    let chained = c.deref-then-meet.result.now in
    let next = c.unite_common.new.row in
    step_with c.args.rows.now c.args.candidates.now c.args.category reads c.deref.result.now chained both (sym c.readers-reads.ensures.readers)
    (c.deref.ensures.value ∙ ap (λ (r : PositionRows). r.last) c.rows.view_is) (c.deref-then-meet.ensures.value
    ∙ ap (λ (r : PositionRows). r.chained) c.rows.view_is)
    (λ p. and_holds (row_bit both p) (row_bit c.args.candidates.now p) (row_bit reads p) (c.intersect.ensures.bits p)) next
    (c.meet.ensures.some c.if-meet.true)
    (λ p. or_and_holds (row_bit next p) (row_bit both p) (row_bit chained p) (row_bit reads p) (c.unite_common.ensures p))

pub returns-then-meet-clause-row : goal.returns-then-meet-clause-row
returns-then-meet-clause-row c = record {
  wide = omega (arith, c.requires.next, c.intersect.auto.row, c.unite_common.auto.row);
  words =
      λ k. omega (arith, c.type_inv.next k);
}

pub returns-else-meet-clause-step : goal.returns-else-meet-clause-step
returns-else-meet-clause-step c =
    let both = c.intersect.new.row in
    let reads = c.readers-reads.result.now in
    step_without c.args.rows.now c.args.candidates.now c.args.category reads c.deref.result.now c.args.rows.now.chained both
    (sym c.readers-reads.ensures.readers) (c.deref.ensures.value ∙ ap (λ (r : PositionRows). r.last) c.rows.view_is) refl
    (λ p. and_holds (row_bit both p) (row_bit c.args.candidates.now p) (row_bit reads p) (c.intersect.ensures.bits p))
    (c.meet.ensures.none c.if-meet.false)

pub returns-else-meet-clause-row : goal.returns-else-meet-clause-row
returns-else-meet-clause-row c = record { wide = omega (arith, c.requires.next, c.intersect.auto.row); words = c.intersect.ensures.words }
