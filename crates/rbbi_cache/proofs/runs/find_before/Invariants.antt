use Rattle.std.proofs.Common.{◌≡◌, ℕ, List, length, take}
use Rattle.std.specs.List.{AllByRecursion}
use Rattle.rbbi_model.specs.Runs.{ShowsBefore}
use Rattle.rbbi_cache.proofs.runs.find_before.Given as goal

abbrev pub invariant-loop-k : goal.invariant-loop-k
invariant-loop-k l = (x : List ℕ) → l.len ≡ length x → AllByRecursion (λ run. (a : ℕ) → ShowsBefore x run l.i a → ⊥) (take l.k l.runs)
