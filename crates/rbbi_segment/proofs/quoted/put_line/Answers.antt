use Rattle.std.proofs.Common.{List, ℕ, subst}
use Rattle.std.specs.List.{slice_range}
use Rattle.rbbi_io.specs.Sinks.{IsBuffered}
use Rattle.rbbi_segment.specs.declared.quoted.Style.{Style}
use Rattle.rbbi_segment.specs.Lines.{head, within, shown_all, tail}
use Rattle.rbbi_segment.proofs.Buffered.{waits, more_waits, more_is_put, more_is_made, three_parts}
use Rattle.rbbi_segment.proofs.Handed.{on_ok}
use Rattle.rbbi_segment.proofs.quoted.put_line.Goals as goal

pub returns : goal.returns
returns g c =
    let made : List ℕ = c.args.made.now.items in
    let style : Style = c.args.style in
    let piece : List ℕ = shown_all (within style.layout) (slice_range c.args.text.now c.args.span.from c.args.span.to) in
    on_ok c.put_when_full.result
    (λ flushed. subst (λ m. IsBuffered (g.K.Sink.taken c.args.out.now) (g.K.Sink.taken c.put_when_full.new.out) m c.put_when_full.new.made.items)
    (three_parts made (head style.layout style.colors c.args.segment) piece (tail style.layout))
    (more_is_put _ _ _ _ _ _
    (more_waits _ _ _ _ _ _ (more_is_made _ _ _ _ _ _ _ (waits _ _ _ c.in_ok-append_head.ensures) c.in_ok-put_characters.ensures) c.in_ok-append_tail.ensures)
    flushed))
    c.put_when_full.ensures.ok
