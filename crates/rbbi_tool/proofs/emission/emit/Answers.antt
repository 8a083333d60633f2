use Rattle.std.proofs.Common.{sym, subst}
use Rattle.rbbi_io.specs.Sinks.{TakesFront}
use Rattle.rbbi_tool.specs.inner.Prepared.{outcome_of}
use Rattle.rbbi_tool.proofs.Emitting.{takes_whole}
use Rattle.rbbi_tool.proofs.emission.emit.Goals as goal

pub returns-in-Ok-clause-front : goal.returns-in-Ok-clause-front
returns-in-Ok-clause-front g c =
    subst (λ p. TakesFront (g.K.Sink.taken c.args.out.now) (g.K.Sink.taken c.put_lines.new.out) (outcome_of p).bytes) (sym c.in-Waiting.is)
    (takes_whole _ _ _ c.in-Ok.ensures.ok)
