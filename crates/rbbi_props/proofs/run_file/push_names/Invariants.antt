use Rattle.std.proofs.Common.{◌≡◌, ◌++◌, map}
use Rattle.rbbi_props.specs.RunRows.{rows_under_names}
use Rattle.rbbi_props.proofs.run_file.push_names.Given as goal

abbrev pub invariant-loop-name : goal.invariant-loop-name
invariant-loop-name l = l.rows.items ≡ l.initial.rows.items ++ rows_under_names l.range (map (λ name. name.now) l.yielded)
