use Rattle.std.proofs.Common.{ap, ◌∙◌, subst}
use Rattle.rbbi_cache.specs.Kept.{KeptRuns}
use Rattle.rbbi_cache.specs.inner.Ready.{IsFloorFor}
use Rattle.rbbi_cache.proofs.Floors.{floor_of_none, floor_of_first}
use Rattle.rbbi_cache.proofs.cache.Cache.floor_before.Goals as goal

pub returns-in-Some : goal.returns-in-Some
returns-in-Some c =
    subst (λ runs. IsFloorFor runs c.args.i c.floor_before.result) (c.as_slice.ensures.runs ∙ ap (λ (s : KeptRuns). s.runs) c.self.view_is)
    (floor_of_first c.as_slice.result.now c.in-Some.run'.now c.in-Some.ensures.value c.args.i c.floor_before.result c.floor_before.ensures)

pub returns-in-None : goal.returns-in-None
returns-in-None c = floor_of_none c.args.self.now.runs c.args.i
