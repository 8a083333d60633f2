use Rattle.std.proofs.Common.{ℕ, List, arith, subst}
use Rattle.rbbi_io.specs.Sinks.{IsBuffered}
use Rattle.rbbi_segment.specs.Escapes.{shown}
use Rattle.rbbi_segment.proofs.Buffered.{waits, more_waits, more_is_put, none_shown, shown_more}
use Rattle.rbbi_segment.proofs.quoted.put_characters.Goals as goal

pub loop-i-init : goal.loop-i-init
loop-i-init g c = record {
  first = omega arith;
  put = waits _ _ _ (none_shown (shown c.within-within.result) c.args.text.now c.args.span.from c.args.made.now.items);
}

pub loop-i-preserved : goal.loop-i-preserved
loop-i-preserved g c =
    let x : List ℕ = c.args.text.now in
    record {
      first = omega arith;
      put = subst (λ m. IsBuffered (g.K.Sink.taken c.args.out.now) (g.K.Sink.taken c.put_when_full.new.out) m c.put_when_full.new.made.items)
          (shown_more (shown c.within-within.result) x c.args.span.from c.loop-i.i c.char_at.result c.args.made.now.items c.loop-i.invariant.first
          (omega (arith, c.loop-i-test.true, c.requires.within)) c.char_at.ensures.character)
          (more_is_put _ _ _ _ _ _ (more_waits _ _ _ _ _ _ c.loop-i.invariant.put c.in_ok-append_character.ensures) c.in_ok-put_when_full.ensures.ok);
    }
