use Rattle.std.proofs.Common.{length, sym, ap, subst}
use Rattle.rbbi_resolve.specs.inner.Readings.{IsReading, HasLeaves}
use Rattle.rbbi_resolve.proofs.outcome.resolve.Goals as goal

pub rules_or_fault-requires-clause-reading : goal.rules_or_fault-requires-clause-reading
rules_or_fault-requires-clause-reading c =
    let n = c.in_ok-reading.ensures in
    subst (IsReading c.in_ok-reading.reading) (ap length (sym n.statements)) n.reading

pub rules_or_fault-requires-clause-leaves : goal.rules_or_fault-requires-clause-leaves
rules_or_fault-requires-clause-leaves c =
    let n = c.in_ok-reading.ensures in
    subst (HasLeaves c.in_ok-reading.reading) (ap length (sym n.statements)) n.leaves
