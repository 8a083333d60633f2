use Rattle.std.proofs.Common.{ℕ, List, ap, ◌∙◌, subst}
use Rattle.std.specs.Prelude.{MatchOption, ⊤}
use Rattle.rbbi_cache.specs.Kept.{KeptRuns}
use Rattle.rbbi_cache.specs.Shown.{IsShownBefore}
use Rattle.rbbi_cache.specs.inner.Lists.{HasAt}
use Rattle.rbbi_cache.proofs.RunLists.{front_shows}
use Rattle.rbbi_cache.proofs.cache.Cache.step_before.Goals as goal

pub returns : goal.returns
returns c =
    subst (λ runs. MatchOption c.step_before.result ⊤ (λ entry. (x : List ℕ) → HasAt runs 0 (λ r. IsShownBefore x r c.args.i entry)))
    (c.as_slice.ensures.runs ∙ ap (λ (s : KeptRuns). s.runs) c.self.view_is)
    (front_shows c.as_slice.result.now c.in_ok-run.run'.now c.in_ok-run.ensures.value c.args.i c.step_before.result c.step_before.ensures)
