use Rattle.std.proofs.Common.{◌≡◌, ◌<◌, false, length}
use Rattle.rbbi_segment.specs.Windows.{LiesIn}
use Rattle.rbbi_segment.proofs.Streamed.{IsStreamed}
use Rattle.rbbi_segment.proofs.streaming.hand_over.Given as goal

-- there is space to read and to search, and what was read and handed over is what the progress says
abbrev pub invariant-loop-turn : goal.invariant-loop-turn
invariant-loop-turn g l = record {
  some : 0 < length l.feed.block.items;
  fit : l.marks ≡ l.table.slashes;
  lies : LiesIn l.window l.progress;
  streamed : IsStreamed g.V.Receive.takes g.V.Receive.pauses l.unit l.filter l.table l.origin.is_lossy (g.R.Read.remaining l.initial.reader) l.initial.receiver
      (g.K.Sink.taken l.initial.out) (g.R.Read.remaining l.reader) l.feed.waiting.items l.window l.progress l.receiver (g.K.Sink.taken l.out) false;
}
