use Rattle.rbbi_segment.proofs.Handed.{on_ok}
use Rattle.rbbi_segment.proofs.named.put_headed.Goals as goal

pub returns : goal.returns
returns g c breaks gives =
    on_ok c.put_text.result
    (λ taken. (taken.0, taken.1, (g.K.Sink.taken c.put_heading.new.out, c.in_ok-put_heading.ensures, taken.2)))
    (c.put_text.ensures breaks gives)
