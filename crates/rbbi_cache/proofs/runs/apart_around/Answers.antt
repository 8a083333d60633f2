use Rattle.std.proofs.Common.{take}
use Rattle.rbbi_cache.specs.inner.Quiet.{IsApart}
use Rattle.rbbi_cache.proofs.RunLists.{one_more}
use Rattle.rbbi_cache.proofs.Apart.{all_nearer_apart}
use Rattle.rbbi_cache.proofs.runs.apart_around.Goals as goal

pub loop-k-preserved : goal.loop-k-preserved
loop-k-preserved c =
    one_more (IsApart c.apart_around-past.result.0 c.apart_around-past.result.1) c.args.runs.now c.loop-k.k c.index-runs-k.result c.loop-k-test.true
    c.index-runs-k.is
    (all_nearer_apart c.loop-k.from c.loop-k.to c.apart_around-past.result.0 c.apart_around-past.result.1 c.apart_around-past.ensures.least
    c.apart_around-past.ensures.most (take c.loop-k.k c.args.runs.now) c.loop-k.invariant)
    c.apart_around-past.ensures.apart
