use Rattle.std.proofs.Common.{ℕ, ◌∙◌, sym, ap, subst, arith}
use Rattle.std.specs.Prelude.{MatchOption}
use Rattle.std.specs.List.{AllByRecursion}
use Rattle.rbbi_model.specs.Runs.{ShowsAfter}
use Rattle.rbbi_cache.specs.Kept.{KeptRuns}
use Rattle.rbbi_cache.specs.Shown.{IsShownAfter}
use Rattle.rbbi_cache.specs.inner.Lists.{HasAt}
use Rattle.rbbi_cache.specs.inner.Quiet.{AreQuiet}
use Rattle.rbbi_cache.proofs.Quieting.{first_tells}
use Rattle.rbbi_cache.proofs.cache.Cache.find_shown.Goals as goal

pub returns : goal.returns
returns c =
    subst (λ l. MatchOption c.find_after-2.result (AllByRecursion (λ run. (a : ℕ) → ShowsAfter run c.args.i a → ⊥) l)
    (λ shown. HasAt l shown.run (λ run. IsShownAfter run c.args.i shown.entry)))
    (c.as_slice-runs.ensures.runs ∙ ap (λ (s : KeptRuns). s.runs) c.self.view_is)
    (first_tells c.as_slice-runs.result.now c.self.inside.quiet_from c.self.inside.quiet_to c.args.i
    (subst (AreQuiet c.self.inside.quiet_from c.self.inside.quiet_to) (sym c.as_slice-runs.ensures.runs) c.self.invariant.0) (omega arith) (omega arith)
    c.find_after-2.result c.find_after-2.ensures)
