use Rattle.std.proofs.Common.{sym, ◌∙◌}
use Rattle.std.proofs.lemmas.Bool.{false≢true}
use Rattle.rbbi_cache.proofs.Among.{among_one, among_not}
use Rattle.rbbi_cache.proofs.extended.are_among.Goals as goal

pub returns-then-not-has : goal.returns-then-not-has
returns-then-not-has c = (
  λ so. absurd (false≢true so),
  λ each. absurd (among_not c.args.entries.now c.args.others.now c.loop-entry.entry-index c.entry-item.result c.loop-entry-test.true c.entry-item.is
      (λ here. false≢true (sym c.if-not-has.true ∙ c.has.ensures.1 here)) each),
)

pub loop-entry-preserved : goal.loop-entry-preserved
loop-entry-preserved c =
    among_one c.args.entries.now c.args.others.now c.loop-entry.entry-index c.entry-item.result c.loop-entry-test.true c.entry-item.is c.loop-entry.invariant
    (c.has.ensures.0 c.if-not-has.false)
