use Rattle.rbbi_segment.specs.Segments.{segments}
use Rattle.rbbi_segment.proofs.Handed.{on_ok}
use Rattle.rbbi_segment.proofs.Written.{all_put}
use Rattle.rbbi_segment.proofs.named.put_lines.Goals as goal

pub returns : goal.returns
returns g c =
    on_ok c.hand_over.result
    (λ all. (
      all.0,
      all.1,
      all.2,
      all_put all.0 _ (g.K.Sink.taken c.args.out.now) (g.K.Sink.taken c.hand_over.new.out)
          (segments c.args.unit c.args.means.now.filter c.args.means.now.table all.0) c.new-made.ensures.items all.3,
    ))
    c.hand_over.ensures
