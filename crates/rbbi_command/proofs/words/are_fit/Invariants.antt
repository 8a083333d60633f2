use Rattle.std.proofs.Common.{map}
use Rattle.std.specs.String.{string_bytes}
use Rattle.rbbi_command.proofs.Fitting.{AreFitTo}
use Rattle.rbbi_command.proofs.words.are_fit.Given as goal

abbrev pub invariant-loop-i : goal.invariant-loop-i
invariant-loop-i l = AreFitTo l.operands (map string_bytes l.words) l.i
