use Rattle.std.proofs.Common.{◌≡◌, ◌<◌, ◌+◌, length, sym, ap, ◌∙◌, subst, inr, arith}
use Rattle.rbbi_bits.specs.NumberedRows.{listed_row}
use Rattle.rbbi_dfa.specs.inner.Determinizing.{Completes, AreFollowers}
use Rattle.rbbi_dfa.proofs.Lead.{begin_refl}
use Rattle.rbbi_dfa.proofs.Cells.{cells_stop, cells_go}
use Rattle.rbbi_dfa.proofs.determinize.lead_set.Goals as goal

pub returns-then-completes-clause-led : goal.returns-then-completes-clause-led
returns-then-completes-clause-led c =
    let rows = c.args.rows.now in
    let here = c.requires.led in
    let completes = subst (Completes rows) c.get-set.ensures (c.completes.ensures.some c.if-completes.true) in
    record {
      reached = here.reached;
      within = omega (arith, c.requires.short);
      led = cells_stop rows c.args.sets.now c.args.cells.now.items c.lead_nowhere.new.cells.items c.args.i here.led c.in_ok-lead_nowhere.ensures completes
          (begin_refl rows c.args.sets.now);
      wide = here.wide;
      wide_next = here.wide_next;
    }

pub follow-requires-clause-set : goal.follow-requires-clause-set
follow-requires-clause-set c =
    ap length c.get-set.ensures ∙ (c.requires.led.reached.are_rows c.args.i c.requires.short).wide

pub lead_on-requires-clause-candidates : goal.lead_on-requires-clause-candidates
lead_on-requires-clause-candidates c =
    let rows = c.args.rows.now in
    inr (
      listed_row c.args.sets.now c.args.i,
      c.requires.led.reached.reached c.args.i c.requires.short,
      subst (λ l. ¬ Completes rows l) c.get-set.ensures (c.completes.ensures.none c.if-completes.false),
      subst (λ l. AreFollowers rows l c.follow.new.candidates) c.get-set.ensures c.in_ok-follow.ensures.followers,
    )

pub returns-clause-led : goal.returns-clause-led
returns-clause-led c =
    let rows = c.args.rows.now in
    let sets = c.args.sets.now in
    let here = c.requires.led in
    let new = c.lead_on.new.sets in
    let unfinished = subst (λ l. ¬ Completes rows l) c.get-set.ensures (c.completes.ensures.none c.if-completes.false) in
    let followers = subst (λ l. AreFollowers rows l c.follow.new.candidates) c.get-set.ensures c.in_ok-follow.ensures.followers in
    record {
      reached = c.in_ok-lead_on.ensures.reached;
      within = omega (arith, c.requires.short, c.in_ok-lead_on.ensures.kept.0);
      led = cells_go rows sets new c.follow.new.candidates c.args.cells.now.items c.lead_on.new.cells.items c.args.i c.requires.short here.led
          c.in_ok-lead_on.ensures.kept c.in_ok-lead_on.ensures.cells unfinished followers;
      wide = omega (arith, here.wide, c.follow.auto.candidates);
      wide_next = omega (arith, here.wide_next, c.lead_on.auto.next);
    }
