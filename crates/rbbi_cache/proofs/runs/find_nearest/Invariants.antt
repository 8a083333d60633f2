use Rattle.std.specs.Prelude.{MatchOption, ⊤}
use Rattle.rbbi_cache.specs.inner.Lists.{HasAt, GoesOnFrom}
use Rattle.rbbi_cache.proofs.runs.find_nearest.Given as goal

abbrev pub invariant-loop-k : goal.invariant-loop-k
invariant-loop-k l = MatchOption l.best ⊤ (λ shown. HasAt l.runs shown.run (GoesOnFrom l.i shown.entry))
