use Rattle.std.proofs.Common.{◌≡◌, length}
use Rattle.rbbi_positions.proofs.Codes.{HaveStarts}
use Rattle.rbbi_positions.proofs.readers.codes_of.Given as goal

abbrev pub invariant-loop-range : goal.invariant-loop-range
invariant-loop-range l = record { many : length l.codes.items ≡ l.cats.count; starts : HaveStarts l.cats.ranges l.codes.items l.range-index }
