use Rattle.std.proofs.Common.{ℕ, take}
use Rattle.std.specs.List.{AllByRecursion}
use Rattle.rbbi_model.specs.Runs.{ShowsAfter}
use Rattle.rbbi_cache.proofs.runs.find_after.Given as goal

abbrev pub invariant-loop-k : goal.invariant-loop-k
invariant-loop-k l = AllByRecursion (λ run. (a : ℕ) → ShowsAfter run l.i a → ⊥) (take l.k l.runs)
