use Rattle.std.proofs.Common.{◌≤◌}
use Rattle.rbbi_segment.proofs.wrapped.end_of_word.Given as goal

abbrev pub invariant-loop-i : goal.invariant-loop-i
invariant-loop-i g l = l.end ≤ l.fn.span.to
