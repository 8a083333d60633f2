use Rattle.std.proofs.Common.{ℕ, ◌<◌, get_or}
use Rattle.rbbi_bits.specs.BitRows.{Holds}
use Rattle.rbbi_dfa.specs.inner.PositionRows.{PositionMark}
use Rattle.rbbi_dfa.proofs.determinize.step.completes.Given as goal

abbrev pub invariant-loop-mark : goal.invariant-loop-mark
invariant-loop-mark l = (k : ℕ) (d : PositionMark) → k < l.mark-index → ¬ Holds l.set (get_or l.mark-items k d).position
