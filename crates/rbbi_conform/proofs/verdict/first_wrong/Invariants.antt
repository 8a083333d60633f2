use Rattle.std.proofs.Common.{◌≡◌, ◌-◌, ◌<◌, ℕ, false}
use Rattle.std.specs.Prelude.{slice_index_or}
use Rattle.rbbi_conform.proofs.verdict.first_wrong.Given as goal

abbrev pub invariant-loop-place : goal.invariant-loop-place
invariant-loop-place l = (i : ℕ) → l.last < i → i < l.place → slice_index_or l.test.marks (i - 1) false ≡ false
