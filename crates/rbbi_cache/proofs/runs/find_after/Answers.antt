use Rattle.std.proofs.Common.{ℕ}
use Rattle.rbbi_model.specs.Runs.{ShowsAfter}
use Rattle.rbbi_cache.specs.Shown.{IsShownAfter}
use Rattle.rbbi_cache.proofs.RunLists.{has_at, one_more}
use Rattle.rbbi_cache.proofs.runs.find_after.Goals as goal

pub returns-in-Some : goal.returns-in-Some
returns-in-Some c =
    has_at (λ run. IsShownAfter run c.args.i c.in-Some.entry) c.args.runs.now c.loop-k.k c.index-runs-k.result c.loop-k-test.true c.index-runs-k.is
    c.in-Some.ensures

pub loop-k-preserved : goal.loop-k-preserved
loop-k-preserved c =
    one_more (λ run. (a : ℕ) → ShowsAfter run c.args.i a → ⊥) c.args.runs.now c.loop-k.k c.index-runs-k.result c.loop-k-test.true c.index-runs-k.is
    c.loop-k.invariant c.in_default.ensures
