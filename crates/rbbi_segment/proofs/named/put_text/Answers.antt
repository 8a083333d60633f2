use Rattle.rbbi_segment.proofs.Carried.{breaks_taken}
use Rattle.rbbi_segment.proofs.Handed.{on_ok}
use Rattle.rbbi_segment.proofs.named.put_text.Goals as goal

pub returns : goal.returns
returns g c breaks gives =
    on_ok c.put_segments.result
    (λ put. (
      put.0,
      put.1,
      breaks_taken c.args.means.now.table c.args.request.now
          (record { breaks = breaks; filter = c.args.means.now.filter; colors = c.args.colors }) put.0 (g.K.Sink.taken c.args.out.now)
          (g.K.Sink.taken c.put_segments.new.out) gives (c.searches_texts.ensures put.0 put.2) put.3,
    ))
    c.put_segments.ensures
