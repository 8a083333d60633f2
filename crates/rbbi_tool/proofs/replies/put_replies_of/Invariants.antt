use Rattle.std.proofs.Common.{map, drop}
use Rattle.rbbi_script.specs.Meaning.{meaning}
use Rattle.rbbi_io.specs.Counts.{GoesOn}
use Rattle.rbbi_tool.proofs.Replying.{AreReplied}
use Rattle.rbbi_tool.proofs.replies.put_replies_of.Given as goal

-- the commands up to this one were performed, and a prefix of the lines of their replies was put
abbrev pub invariant-loop-i : goal.invariant-loop-i
invariant-loop-i g l = record {
  replied : AreReplied g.S.Walk.view l.fn.session (map meaning l.commands) (map meaning (drop l.i l.commands)) l.session
      (g.K.Sink.taken l.initial.out) (g.K.Sink.taken l.out) l.made.items l.fn.steps l.steps;
  faults : GoesOn (g.K.Sink.faults l.initial.out) (g.K.Sink.faults l.out);
}
