use Rattle.std.proofs.Common.{map}
use Rattle.rbbi_props.proofs.RunRows.{AreRead}
use Rattle.rbbi_props.proofs.run_file.rows_of_runs.Given as goal

abbrev pub invariant-loop-run : goal.invariant-loop-run
invariant-loop-run l = AreRead l.runs (map (λ names. names.now) l.values) l.run-index l.low l.rows.items
