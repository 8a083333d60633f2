use Rattle.std.proofs.Common.{◌≡◌, map, drop}
use Rattle.rbbi_script.specs.Meaning.{meaning}
use Rattle.rbbi_io.specs.Counts.{GoesOn}
use Rattle.rbbi_tool.specs.Steps.{tally_cost}
use Rattle.rbbi_tool.specs.inner.Tallying.{tally_lines}
use Rattle.rbbi_tool.proofs.Telling.{AreTold}
use Rattle.rbbi_tool.proofs.tallying.put_tally.Given as goal

-- what is told of the commands before this one is made, and a prefix of it was put
abbrev pub invariant-loop-i : goal.invariant-loop-i
invariant-loop-i g l = record {
  told : AreTold l.table (tally_lines l.table l.fn.text (map meaning l.commands)) (tally_cost l.table l.fn.text (map meaning l.commands)) l.tally.text
      (map meaning (drop l.i l.commands)) (g.K.Sink.taken l.initial.out) (g.K.Sink.taken l.out) l.made.items l.fn.steps l.steps;
  table : l.tally.table ≡ l.table;
  faults : GoesOn (g.K.Sink.faults l.initial.out) (g.K.Sink.faults l.out);
}
