use Rattle.unicode.specs.Steps.{is_between}
use Rattle.rbbi_props.proofs.ReadRuns.{IsReadFrom}
use Rattle.rbbi_props.proofs.runs.set_of_runs.Given as goal

abbrev pub invariant-loop-i : goal.invariant-loop-i
invariant-loop-i l = IsReadFrom l.runs (is_between l.first l.last) l.i l.from l.ranges.items
