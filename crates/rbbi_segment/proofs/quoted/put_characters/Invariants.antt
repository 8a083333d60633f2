use Rattle.std.proofs.Common.{◌≤◌, ◌++◌}
use Rattle.std.specs.List.{slice_range}
use Rattle.rbbi_io.specs.Sinks.{IsBuffered}
use Rattle.rbbi_segment.specs.Lines.{shown_all}
use Rattle.rbbi_segment.proofs.quoted.put_characters.Given as goal

-- the characters before this one went out or wait
abbrev pub invariant-loop-i : goal.invariant-loop-i
invariant-loop-i g l = record {
  first : l.fn.span.from ≤ l.i;
  put : IsBuffered (g.K.Sink.taken l.initial.out) (g.K.Sink.taken l.out)
      (l.fn.made.items ++ shown_all l.within (slice_range l.text l.fn.span.from l.i)) l.made.items;
}
