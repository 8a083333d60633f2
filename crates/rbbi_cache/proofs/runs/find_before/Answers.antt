use Rattle.std.proofs.Common.{ℕ}
use Rattle.rbbi_model.specs.Runs.{ShowsBefore}
use Rattle.rbbi_cache.specs.Shown.{IsShownBefore}
use Rattle.rbbi_cache.proofs.RunLists.{has_at, one_more}
use Rattle.rbbi_cache.proofs.runs.find_before.Goals as goal

pub returns-in-Some : goal.returns-in-Some
returns-in-Some c x same =
    has_at (λ run. IsShownBefore x run c.args.i c.in-Some.entry) c.args.runs.now c.loop-k.k c.index-runs-k.result c.loop-k-test.true c.index-runs-k.is
    (c.in-Some.ensures x same)

pub loop-k-preserved : goal.loop-k-preserved
loop-k-preserved c x same =
    one_more (λ run. (a : ℕ) → ShowsBefore x run c.args.i a → ⊥) c.args.runs.now c.loop-k.k c.index-runs-k.result c.loop-k-test.true c.index-runs-k.is
    (c.loop-k.invariant x same) (c.in_default.ensures x same)
