-- Each run adds its rows, and behind the last one all are read.
use Rattle.std.proofs.Common.{map, arith}
use Rattle.rbbi_props.proofs.RunRows.{AreRead-more, AreRead-all, run-ends, run-range}
use Rattle.rbbi_props.proofs.run_file.rows_of_runs.Goals as goal

pub overflow_sub-range : goal.overflow_sub-range
overflow_sub-range c =
    let ends = run-ends c.args.runs.now (map (λ names. names.now) c.args.values.now) c.loop-run.run-index c.loop-run.low c.loop-run.rows.items
    c.loop-run.invariant c.loop-run-test.true in
    omega (arith, ends)

pub push_names-requires : goal.push_names-requires
push_names-requires c =
    run-range c.args.runs.now (map (λ names. names.now) c.args.values.now) c.loop-run.run-index c.loop-run.low c.loop-run.rows.items
    c.loop-run.invariant c.loop-run-test.true

pub loop-run-preserved : goal.loop-run-preserved
loop-run-preserved c =
    AreRead-more c.args.runs.now (map (λ names. names.now) c.args.values.now) c.loop-run.run-index c.loop-run.low c.loop-run.rows.items
    c.push_names.new.rows.items c.names_at.result.now c.loop-run.invariant c.loop-run-test.true c.names_at.ensures c.in_ok-push_names.ensures

pub returns : goal.returns
returns c =
    AreRead-all c.args.runs.now (map (λ names. names.now) c.args.values.now) c.loop-run.run-index c.loop-run.low c.loop-run.rows.items
    c.loop-run.invariant (omega (arith, c.loop-run-test.false))
