use Rattle.std.proofs.Common.{sym, ap, ◌∙◌, subst}
use Rattle.std.specs.List.{AllByRecursion}
use Rattle.rbbi_cache.specs.Kept.{KeptRuns}
use Rattle.rbbi_cache.specs.inner.Quiet.{IsApart, AreApart}
use Rattle.rbbi_cache.proofs.Apart.{all_apart}
use Rattle.rbbi_cache.proofs.cache.Cache.apart_around.Goals as goal

pub returns : goal.returns
returns c =
    subst (AllByRecursion (IsApart c.apart_around-2.result.0 c.apart_around-2.result.1))
    (c.as_slice-runs.ensures.runs ∙ ap (λ (s : KeptRuns). s.runs) c.self.view_is)
    (all_apart c.self.inside.apart_from c.self.inside.apart_to c.apart_around-2.result.0 c.apart_around-2.result.1 c.apart_around-2.ensures.least
    c.apart_around-2.ensures.most c.as_slice-runs.result.now c.index-runs-0.result c.index-runs-0.is
    (subst (AreApart c.self.inside.apart_from c.self.inside.apart_to) (sym c.as_slice-runs.ensures.runs) c.self.invariant.1) c.apart_around-2.ensures.apart)
