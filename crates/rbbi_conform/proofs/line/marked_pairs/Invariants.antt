use Rattle.std.proofs.Common.{length}
use Rattle.std.specs.Prelude.{chars, string_bytes}
use Rattle.rbbi_conform.proofs.Marking.{IsMarking}
use Rattle.rbbi_conform.proofs.line.marked_pairs.Given as goal

abbrev pub invariant-loop-point : goal.invariant-loop-point
invariant-loop-point l = IsMarking l.words (chars (string_bytes l.text)) l.marks.items l.rest

abbrev pub decreases-loop-point : goal.decreases-loop-point
decreases-loop-point l = length l.rest
