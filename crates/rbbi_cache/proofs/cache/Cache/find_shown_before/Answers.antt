use Rattle.std.proofs.Common.{ℕ, ◌∙◌, sym, ap, subst, arith}
use Rattle.std.specs.Prelude.{MatchOption}
use Rattle.std.specs.List.{AllByRecursion}
use Rattle.rbbi_model.specs.Runs.{ShowsBefore}
use Rattle.rbbi_cache.specs.Kept.{KeptRuns}
use Rattle.rbbi_cache.specs.Shown.{IsShownBefore}
use Rattle.rbbi_cache.specs.inner.Lists.{HasAt}
use Rattle.rbbi_cache.specs.inner.Quiet.{AreApart}
use Rattle.rbbi_cache.proofs.Apart.{first_tells_before}
use Rattle.rbbi_cache.proofs.cache.Cache.find_shown_before.Goals as goal

pub returns : goal.returns
returns c x same =
    subst (λ l. MatchOption c.find_before-2.result (AllByRecursion (λ run. (a : ℕ) → ShowsBefore x run c.args.i a → ⊥) l)
    (λ shown. HasAt l shown.run (λ run. IsShownBefore x run c.args.i shown.entry)))
    (c.as_slice-runs.ensures.runs ∙ ap (λ (s : KeptRuns). s.runs) c.self.view_is)
    (first_tells_before x c.self.inside.apart_from c.self.inside.apart_to c.args.i (omega arith) (omega arith) (omega arith) c.as_slice-runs.result.now
    (subst (AreApart c.self.inside.apart_from c.self.inside.apart_to) (sym c.as_slice-runs.ensures.runs) c.self.invariant.1)
    c.find_before-2.result (c.find_before-2.ensures x same))
