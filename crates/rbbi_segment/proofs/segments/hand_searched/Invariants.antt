use Rattle.std.proofs.Common.{◌≡◌, ◌-◌}
use Rattle.rbbi_segment.specs.Windows.{HandsOn, LiesIn}
use Rattle.rbbi_segment.proofs.segments.hand_searched.Given as goal

-- the progress lies in the window, there is space for the searches, and what was handed over so far is what the progress says
abbrev pub invariant-loop-now : goal.invariant-loop-now
invariant-loop-now g l = record {
  lies : LiesIn l.text l.now;
  fit : l.marks ≡ l.initial.marks;
  stands : HandsOn g.V.Receive.takes g.V.Receive.pauses l.unit l.filter l.table l.text l.extent.is_whole l.initial.now l.initial.receiver
      (g.K.Sink.taken l.initial.out) l.now l.receiver (g.K.Sink.taken l.out);
}

-- the characters that are left
abbrev pub decreases-loop-now : goal.decreases-loop-now
decreases-loop-now g l = l.len - l.now.at
