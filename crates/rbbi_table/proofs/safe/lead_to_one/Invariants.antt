use Rattle.std.proofs.Common.{◌≡◌, length}
use Rattle.rbbi_table.proofs.PairLemmas.{AreMarkedBelow}
use Rattle.rbbi_table.proofs.safe.lead_to_one.Given as goal

abbrev pub invariant-loop-target : goal.invariant-loop-target
invariant-loop-target l = (length l.marked.items ≡ l.width) × AreMarkedBelow l.cells l.width l.targets l.first l.marked.items l.target-index
