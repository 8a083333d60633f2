use Rattle.std.proofs.Common.{arith, subst}
use Rattle.rbbi_io.specs.Sinks.{Takes}
use Rattle.rbbi_segment.proofs.program.segment.Goals as goal

pub returns-in-Asks : goal.returns-in-Asks
returns-in-Asks g c done = rw c.in-Asks.is (c.carry_out.ensures done)

pub returns-in-Shows : goal.returns-in-Shows
returns-in-Shows g c done =
    rw c.in-Shows.is (subst (Takes (g.K.Sink.taken c.args.out.now) (g.K.Sink.taken c.show.new.out)) c.deref.ensures.value (c.show.ensures done))

pub returns-in-Fails : goal.returns-in-Fails
returns-in-Fails g c done = absurd (omega (arith, done, c.tell.ensures))
