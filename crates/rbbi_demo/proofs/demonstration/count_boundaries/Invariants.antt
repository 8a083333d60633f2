use Rattle.std.proofs.Common.{length}
use Rattle.rbbi_session.proofs.Stepping.{left_of}
use Rattle.rbbi_demo.proofs.Counting.{AreCounted}
use Rattle.rbbi_demo.proofs.demonstration.count_boundaries.Given as goal

abbrev pub invariant-loop-place : goal.invariant-loop-place
invariant-loop-place g l = AreCounted l.fn.session l.session l.place l.count

abbrev pub decreases-loop-place : goal.decreases-loop-place
decreases-loop-place g l = left_of (length l.fn.session.state.text) l.place
