use Rattle.std.proofs.Common.{length, ap, subst, arith}
use Rattle.rbbi_cache.specs.inner.Shown.{AreUpTo}
use Rattle.rbbi_cache.proofs.Quieting.{quiet_before, quiet_past}
use Rattle.rbbi_cache.proofs.run.Run.quiet_to.Goals as goal

pub returns-then-i-anchor-clause-quiet : goal.returns-then-i-anchor-clause-quiet
returns-then-i-anchor-clause-quiet c =
    quiet_before c.args.self.now c.args.i c.min-nearer.result c.requires.behind (omega (arith, c.min-nearer.ensures, c.anchor-anchor.ensures))

pub returns-then-k-entries-clause-quiet : goal.returns-then-k-entries-clause-quiet
returns-then-k-entries-clause-quiet c i low high a shows = omega arith

pub returns-clause-quiet : goal.returns-clause-quiet
returns-clause-quiet c =
    quiet_past c.args.self.now c.args.i c.args.to c.count_up_to-k.result
    (subst (λ l. AreUpTo l c.args.i c.count_up_to-k.result) c.entries-entries.ensures c.count_up_to-k.ensures)
    (omega (arith, c.count_up_to-k.ensures.within, ap length c.entries-entries.ensures))
