use Rattle.std.proofs.Common.{◌≡◌, length, ap, ◌∙◌, subst, arith}
use Rattle.rbbi_dfa.specs.inner.PositionRows.{PositionRows}
use Rattle.rbbi_dfa.specs.inner.Determinizing.{AreCellsUpTo, AddsZeros, AddsCells}
use Rattle.rbbi_dfa.proofs.Cells.{cells_start}
use Rattle.rbbi_dfa.proofs.determinize.lead_sets.Goals as goal

pub loop-i-init : goal.loop-i-init
loop-i-init c =
    let rows = c.args.rows.now in
    let sets = c.lead_on.new.sets in
    let first = c.lead_nowhere.new.cells.items in
    let cells = c.lead_on.new.cells.items in
    let zeros = subst (λ l. AddsZeros l first rows.categories) c.requires.cells c.in_ok-lead_nowhere.ensures in
    let is_first = c.deref.ensures.value ∙ ap (λ (r : PositionRows). r.first) c.rows.view_is in
    let adds = subst (λ l. AddsCells rows sets l first cells rows.categories) is_first c.in_ok-lead_on.ensures.cells in
    record {
      led = record {
        reached = c.in_ok-lead_on.ensures.reached;
        within = omega arith;
        led = cells_start rows sets first cells zeros adds;
        wide = c.requires.candidates;
        wide_next = omega (arith, c.requires.next, c.lead_on.auto.next);
      };
      kept = c.requires.kept;
    }

pub returns-clause-cells : goal.returns-clause-cells
returns-clause-cells c =
    let same : c.loop-i.i ≡ length c.loop-i.sets = omega (arith, c.len.ensures.value, c.loop-i-test.false, c.loop-i.invariant.led.within) in
    subst (AreCellsUpTo c.args.rows.now c.loop-i.sets c.loop-i.cells.items) same c.loop-i.invariant.led.led
