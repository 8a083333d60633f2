use Rattle.std.proofs.Common.{◌≤◌, ◌-◌, max}
use Rattle.rbbi_classes.proofs.ClassRows.{AreJoined}
use Rattle.rbbi_classes.proofs.word_row.WordRow.combine.Given as goal

-- the words up to this place are joined
abbrev pub invariant-loop-place : goal.invariant-loop-place
invariant-loop-place l = record {
  begun : l.first ≤ l.place;
  within : l.place ≤ max l.first l.last;
  joined : AreJoined l.operation l.from l.initial.row l.row l.other l.first l.place;
}

abbrev pub decreases-loop-place : goal.decreases-loop-place
decreases-loop-place l = l.last - l.place
