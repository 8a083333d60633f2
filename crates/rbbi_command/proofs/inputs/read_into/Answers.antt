use Rattle.std.proofs.Common.{arith}
use Rattle.std.proofs.lemmas.Result.{err_from_is_err_and}
use Rattle.rbbi_command.proofs.Reading.{none_read, some_reads_made, reading_ends, reads_more, all_read, all_in_order}
use Rattle.rbbi_command.proofs.Reading.{one_read_more, stops_at, stops_without, all_reads}
use Rattle.rbbi_command.specs.Reads as made
use Rattle.rbbi_command.specs.Inputs.{inputs_in}
use Rattle.rbbi_command.proofs.inputs.read_into.Goals as goal

pub loop-source-init : goal.loop-source-init
loop-source-init g c =
    record {
      told =
          none_read c.args.sources.now (g.F.Files.contents c.args.files.now) (g.F.Files.failed_reads c.args.files.now)
          (g.F.Files.failed_writes c.args.files.now) (inputs_in c.args.inputs.now) (g.met.F.Files.reads_fit c.args.files.now)
          c.requires;
      reads = made.NoRead;
    }

pub returns-in_err-bytes-clause-refused : goal.returns-in_err-bytes-clause-refused
returns-in_err-bytes-clause-refused g c =
    let p = err_from_is_err_and c.from_residual.result c.from_residual.ensures.1 in
    let refused = c.in_err-bytes.ensures in
    rw (p.1, p.2) (reading_ends c.loop-source.invariant.told c.source-item.result c.loop-source-test.true c.source-item.is
    (g.F.Files.failed_reads c.read_one.new.files) c.in_err-bytes.field-0.0 refused.reads refused.others refused.refused)

pub returns-in_err-bytes-clause-order : goal.returns-in_err-bytes-clause-order
returns-in_err-bytes-clause-order g c =
    some_reads_made c.loop-source.invariant.told c.source-item.result c.loop-source-test.true c.source-item.is
    (g.F.Files.failed_reads c.read_one.new.files) c.in_err-bytes.ensures.others

pub returns-in_err-put-clause-order : goal.returns-in_err-put-clause-order
returns-in_err-put-clause-order g c =
    some_reads_made c.loop-source.invariant.told c.source-item.result c.loop-source-test.true c.source-item.is
    (g.F.Files.failed_reads c.read_one.new.files) c.in_ok-bytes.ensures.others

pub loop-source-preserved : goal.loop-source-preserved
loop-source-preserved g c =
    let read = c.in_ok-bytes.ensures in
    record {
      told =
          reads_more c.loop-source.invariant.told c.source-item.result c.loop-source-test.true c.source-item.is (g.F.Files.contents c.read_one.new.files)
          (g.F.Files.failed_reads c.read_one.new.files) (g.F.Files.failed_writes c.read_one.new.files) c.in_ok-bytes.bytes (inputs_in c.put.new.self) read.read
          read.same read.reads read.calm read.writes read.others c.in_ok-put.ensures;
      reads =
          one_read_more _ _ _ _ _ _ c.source-item.result c.loop-source.invariant.reads c.loop-source-test.true c.source-item.is c.in_ok-bytes.bytes read.once;
    }

pub returns-clause-read : goal.returns-clause-read
returns-clause-read g c = all_read c.loop-source.invariant.told c.loop-source-test.false

pub returns-clause-short : goal.returns-clause-short
returns-clause-short g c = c.loop-source.invariant.told.short

pub returns-clause-order : goal.returns-clause-order
returns-clause-order g c = all_in_order c.loop-source.invariant.told c.loop-source-test.false

pub returns-in_err-bytes-clause-calls : goal.returns-in_err-bytes-clause-calls
returns-in_err-bytes-clause-calls g c =
    let p = err_from_is_err_and c.from_residual.result c.from_residual.ensures.1 in
    rw (p.1, p.2) (stops_at _ _ _ _ _ _ c.source-item.result c.loop-source.invariant.reads c.loop-source-test.true c.source-item.is
    c.in_err-bytes.field-0.0 c.in_err-bytes.ensures.once)

pub returns-in_err-put-clause-calls : goal.returns-in_err-put-clause-calls
returns-in_err-put-clause-calls g c =
    let p = err_from_is_err_and c.from_residual-in_err-put.result c.from_residual-in_err-put.ensures.1 in
    rw (p.1, p.2) (stops_without _ _ _ _ _ (one_read_more _ _ _ _ _ _ c.source-item.result c.loop-source.invariant.reads c.loop-source-test.true
    c.source-item.is c.in_ok-bytes.bytes c.in_ok-bytes.ensures.once))

pub returns-clause-calls : goal.returns-clause-calls
returns-clause-calls g c =
    all_reads _ _ _ _ _ c.loop-source.invariant.reads (omega (arith, c.loop-source.invariant.told.inside, c.loop-source-test.false))

pub returns-clause-calm : goal.returns-clause-calm
returns-clause-calm g c = c.loop-source.invariant.told.calm
