use Rattle.std.proofs.Common.{sym, ◌∙◌}
use Rattle.std.proofs.lemmas.Bool.{false≢true}
use Rattle.rbbi_cache.specs.Kept.{IsExtendedBy}
use Rattle.rbbi_cache.proofs.RunLists.{has_at, one_more}
use Rattle.rbbi_cache.proofs.extended.find_extended.Goals as goal

pub returns-then-extends : goal.returns-then-extends
returns-then-extends c =
    has_at (λ r. IsExtendedBy r c.args.run.now) c.args.runs.now c.loop-k.k c.index-runs-k.result c.loop-k-test.true c.index-runs-k.is
    (c.extends.ensures.0 c.if-extends.true)

pub loop-k-preserved : goal.loop-k-preserved
loop-k-preserved c =
    one_more (λ r. IsExtendedBy r c.args.run.now → ⊥) c.args.runs.now c.loop-k.k c.index-runs-k.result c.loop-k-test.true c.index-runs-k.is
    c.loop-k.invariant (λ is. false≢true (sym c.if-extends.false ∙ c.extends.ensures.1 is))
