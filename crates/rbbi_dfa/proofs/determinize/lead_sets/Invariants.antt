use Rattle.std.proofs.Common.{◌-◌}
use Rattle.rbbi_dfa.specs.inner.Determinizing.{IsLed}
use Rattle.rbbi_dfa.specs.inner.LastWords.{AreKept}
use Rattle.rbbi_dfa.proofs.determinize.lead_sets.Given as goal

abbrev pub invariant-loop-i : goal.invariant-loop-i
invariant-loop-i l = record {
  led : IsLed l.rows l.sets l.cells.items l.candidates l.next l.i;
  kept : AreKept l.rows l.last.words.items l.last.unions.items;
}

abbrev pub decreases-loop-i : goal.decreases-loop-i
decreases-loop-i l = 16384 - l.i
