use Rattle.rbbi_resolve.specs.inner.Readings.{ReadsOn}
use Rattle.rbbi_resolve.proofs.outcome.read_all.Given as goal

abbrev pub invariant-loop-number : goal.invariant-loop-number
invariant-loop-number l = ReadsOn l.initial.reading l.reading l.number
