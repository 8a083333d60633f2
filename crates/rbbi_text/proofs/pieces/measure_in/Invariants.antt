use Rattle.std.proofs.Common.{◌≡◌}
use Rattle.rbbi_text.proofs.pieces.measure_in.Given as goal

abbrev pub invariant-loop-i : goal.invariant-loop-i
invariant-loop-i l = l.pieces.items ≡ l.initial.pieces.items
