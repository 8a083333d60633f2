use Rattle.std.proofs.Common.{◌<◌, ◌^◌}
use Rattle.rbbi_dfa.proofs.MarkLoops.{AreFrontsUpTo}
use Rattle.rbbi_dfa.proofs.determinize.marks.fronts.Given as goal

abbrev pub invariant-loop-mark : goal.invariant-loop-mark
invariant-loop-mark l = AreFrontsUpTo l.mark-items l.set l.mark-index l.fronts × (l.fronts < 2 ^ l.rows.slashes)
