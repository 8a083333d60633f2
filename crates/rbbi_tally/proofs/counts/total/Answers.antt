use Rattle.std.proofs.Common.{ℕ, arith, sum}
use Rattle.std.proofs.lemmas.List.{at_drop_all}
use Rattle.std.proofs.lemmas.List.Sums.{sum_by-drop_more}
use Rattle.rbbi_tally.proofs.counts.total.Goals as goal

pub overflow_add-all : goal.overflow_add-all
overflow_add-all c = omega (arith, sum_by-drop_more (λ (n : ℕ). n) c.args.counts.now c.loop-count.count-index 0 (omega arith))

pub loop-count-preserved : goal.loop-count-preserved
loop-count-preserved c = omega (arith, sum_by-drop_more (λ (n : ℕ). n) c.args.counts.now c.loop-count.count-index 0 (omega arith))

pub returns : goal.returns
returns c = omega (arith, at_drop_all sum c.args.counts.now c.loop-count.count-index (omega arith), c.loop-count.invariant)
