use Rattle.std.proofs.Common.{◌≡◌, ◌≤◌, ◌<◌, List, ℕ, length, Bool, true, false, refl, sym, ap, ◌∙◌, subst, ⊎_elim, arith}
use Rattle.std.specs.Prelude.{IsTrue}
use Rattle.std.proofs.lemmas.Bool.{false≢true}
use Rattle.rbbi_segment.specs.Windows.{LiesIn}
use Rattle.rbbi_segment.proofs.Streamed.{IsStreamed, lies_grown, lies_shifted, streamed_start, streamed_more, streamed_on, streamed_paused, streamed_shifted}
use Rattle.rbbi_segment.proofs.Streamed.{streamed_last}
use Rattle.rbbi_segment.proofs.streaming.hand_over.Goals as goal

-- what implies a test that fails fails
not_true : (a b : Bool) → (IsTrue a → IsTrue b) → b ≡ false → a ≡ false
not_true false b implies is = refl
not_true true b implies is = absurd (false≢true (sym is ∙ implies refl))

pub loop-turn-init : goal.loop-turn-init
loop-turn-init g c = record {
  some = c.in_ok-feed.ensures.some;
  fit = c.in_ok-marks.ensures;
  lies = record { ordered = omega arith; within = omega arith };
  streamed = streamed_start g.V.Receive.takes g.V.Receive.pauses c.args.unit c.args.filter.now c.args.table.now
      c.args.origin.is_lossy (g.R.Read.remaining c.args.reader.now)
      c.args.receiver.now (g.K.Sink.taken c.args.out.now) c.in_ok-feed.feed.waiting.items c.in_ok-window.window c.in_ok-feed.ensures.waiting
      c.in_ok-window.ensures;
}

pub loop-turn-preserved-then-len-enough : goal.loop-turn-preserved-then-len-enough
loop-turn-preserved-then-len-enough g c =
    let so_far = c.loop-turn.invariant in
    let left = g.R.Read.remaining c.loop-turn.reader in
    let less = g.R.Read.remaining c.more.new.reader in
    let waiting : List ℕ = c.loop-turn.feed.waiting.items in
    let waits : List ℕ = c.more.new.self.waiting.items in
    let not_last : c.in_ok-is_last.is_last ≡ false = not_true c.in_ok-is_last.is_last c.is_whole-is_whole.result c.is_whole-is_whole.ensures.last c.if-not-is_whole.true in
    record {
      some = omega (arith, c.more.ensures.some, so_far.some);
      fit = so_far.fit;
      lies = lies_grown c.args.origin.is_lossy left less waiting waits c.loop-turn.window c.more.new.window c.in_ok-is_last.is_last
          c.loop-turn.progress c.in_ok-is_last.ensures.reads
          so_far.lies;
      streamed = subst (IsStreamed g.V.Receive.takes g.V.Receive.pauses c.args.unit c.args.filter.now c.args.table.now c.args.origin.is_lossy
          (g.R.Read.remaining c.args.reader.now) c.args.receiver.now (g.K.Sink.taken c.args.out.now) less waits c.more.new.window c.loop-turn.progress
          c.loop-turn.receiver (g.K.Sink.taken c.loop-turn.out)) not_last
          (streamed_more g.V.Receive.takes g.V.Receive.pauses c.args.unit c.args.filter.now c.args.table.now c.args.origin.is_lossy
          (g.R.Read.remaining c.args.reader.now) c.args.receiver.now (g.K.Sink.taken c.args.out.now) left waiting c.loop-turn.window c.loop-turn.progress
          c.loop-turn.receiver (g.K.Sink.taken c.loop-turn.out) so_far.streamed less waits c.more.new.window c.in_ok-is_last.is_last
          c.in_ok-is_last.ensures.reads);
    }

pub returns-then-is_last : goal.returns-then-is_last
returns-then-is_last g c =
    let so_far = c.loop-turn.invariant in
    let left = g.R.Read.remaining c.loop-turn.reader in
    let less = g.R.Read.remaining c.more.new.reader in
    let waiting : List ℕ = c.loop-turn.feed.waiting.items in
    let waits : List ℕ = c.more.new.self.waiting.items in
    let longer : List ℕ = c.more.new.window in
    let now = g.K.Sink.taken c.loop-turn.out in
    let held = g.R.Read.remaining c.args.reader.now in
    let before = g.K.Sink.taken c.args.out.now in
    let more = streamed_more g.V.Receive.takes g.V.Receive.pauses c.args.unit c.args.filter.now c.args.table.now
    c.args.origin.is_lossy held c.args.receiver.now before left waiting
    c.loop-turn.window c.loop-turn.progress c.loop-turn.receiver now so_far.streamed less waits longer c.in_ok-is_last.is_last
    c.in_ok-is_last.ensures.reads in
    let ended = c.in_ok-is_last.ensures.reads.ended c.if-is_last.true in
    streamed_last g.V.Receive.takes g.V.Receive.pauses c.args.unit c.args.filter.now c.args.table.now
    c.args.origin.is_lossy held c.args.receiver.now before less waits longer
    c.loop-turn.progress c.loop-turn.receiver now c.in_ok-is_last.is_last more g.V.Receive.ends c.in_ok-progress.progress c.hand_window.new.receiver
    (g.K.Sink.taken c.hand_window.new.out) (g.K.Sink.taken c.end.new.out) c.is_whole-is_whole.result ended.1 ended.0
    (⊎_elim
    (λ all. all)
    (λ long. absurd (omega (arith, long, c.if-pending-limit.false, c.len-in-loop-turn.ensures.exact)))
    (c.in_ok-progress.ensures.all (c.is_whole-is_whole.ensures.last c.if-is_last.true) c.if-is_last.true)) c.in_ok-progress.ensures.handed c.in_ok-end.ensures

pub loop-turn-preserved : goal.loop-turn-preserved
loop-turn-preserved g c =
    let so_far = c.loop-turn.invariant in
    let left = g.R.Read.remaining c.loop-turn.reader in
    let less = g.R.Read.remaining c.more.new.reader in
    let waiting : List ℕ = c.loop-turn.feed.waiting.items in
    let waits : List ℕ = c.more.new.self.waiting.items in
    let longer : List ℕ = c.more.new.window in
    let now = g.K.Sink.taken c.loop-turn.out in
    let then = g.K.Sink.taken c.hand_window.new.out in
    let after = g.K.Sink.taken c.pause-in-loop-turn.new.out in
    let held = g.R.Read.remaining c.args.reader.now in
    let before = g.K.Sink.taken c.args.out.now in
    let later = c.in_ok-progress.progress in
    let more = streamed_more g.V.Receive.takes g.V.Receive.pauses c.args.unit c.args.filter.now c.args.table.now
    c.args.origin.is_lossy held c.args.receiver.now before left waiting
    c.loop-turn.window c.loop-turn.progress c.loop-turn.receiver now so_far.streamed less waits longer c.in_ok-is_last.is_last
    c.in_ok-is_last.ensures.reads in
    let on = streamed_on g.V.Receive.takes g.V.Receive.pauses c.args.unit c.args.filter.now c.args.table.now
    c.args.origin.is_lossy held c.args.receiver.now before less waits longer
    c.loop-turn.progress c.loop-turn.receiver now c.in_ok-is_last.is_last more later c.hand_window.new.receiver then c.is_whole-is_whole.result
    (λ is. ⊎_elim (λ last. absurd (cc (last, c.if-is_last.false))) (λ line. (c.end_lines-lines_end.ensures.0 line.0, line.1)) (c.is_whole-is_whole.ensures.line is))
    c.in_ok-progress.ensures.handed in
    let paused = streamed_paused g.V.Receive.takes g.V.Receive.pauses c.args.unit c.args.filter.now c.args.table.now
    c.args.origin.is_lossy held c.args.receiver.now before less waits
    longer later c.hand_window.new.receiver then c.in_ok-is_last.is_last on c.pause-in-loop-turn.new.self after c.in_ok-pause-2.ensures in record {
      some = omega (arith, c.more.ensures.some, so_far.some);
      fit = c.hand_window.ensures.fit ∙ so_far.fit;
      lies = lies_shifted longer c.shift.new.window later c.in_ok-progress-2.progress c.in_ok-progress.ensures.lies c.in_ok-progress-2.ensures;
      streamed = subst (IsStreamed g.V.Receive.takes g.V.Receive.pauses c.args.unit c.args.filter.now c.args.table.now c.args.origin.is_lossy held
          c.args.receiver.now before less waits c.shift.new.window c.in_ok-progress-2.progress c.pause-in-loop-turn.new.self after) c.if-is_last.false
          (streamed_shifted g.V.Receive.takes g.V.Receive.pauses c.args.unit c.args.filter.now c.args.table.now c.args.origin.is_lossy held c.args.receiver.now
          before less waits longer later c.pause-in-loop-turn.new.self after c.in_ok-is_last.is_last paused c.shift.new.window c.in_ok-progress-2.progress
          c.in_ok-progress.ensures.lies c.in_ok-progress-2.ensures);
    }
