use Rattle.std.proofs.Common.{take, subst, arith}
use Rattle.std.specs.List.{AllByRecursion}
use Rattle.std.proofs.lemmas.List.{take_all}
use Rattle.rbbi_cache.specs.inner.Quiet.{IsQuiet}
use Rattle.rbbi_cache.proofs.RunLists.{one_more}
use Rattle.rbbi_cache.proofs.Quieting.{fewer_quiet}
use Rattle.rbbi_cache.proofs.runs.quiet_to.Goals as goal

pub loop-k-preserved : goal.loop-k-preserved
loop-k-preserved c =
    one_more (IsQuiet c.args.i c.quiet_to-to.result) c.args.runs.now c.loop-k.k c.index-runs-k.result c.loop-k-test.true c.index-runs-k.is
    (fewer_quiet c.args.i c.loop-k.to c.quiet_to-to.result c.quiet_to-to.ensures.at_most (take c.loop-k.k c.args.runs.now) c.loop-k.invariant)
    c.quiet_to-to.ensures.quiet

pub returns : goal.returns
returns c = subst (AllByRecursion (IsQuiet c.args.i c.loop-k.to)) (take_all c.loop-k.k c.args.runs.now (omega arith)) c.loop-k.invariant
