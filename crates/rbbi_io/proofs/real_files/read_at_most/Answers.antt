use Rattle.std.proofs.Common.{arith}
use Rattle.std.proofs.lemmas.Result.{err_from_is_err_and}
use Rattle.rbbi_io.proofs.Readers.{TakesAtMost-more, AnswersRead-refused, told_not_long, KeepsFault-refused}
use Rattle.rbbi_io.proofs.real_files.read_at_most.Goals as goal

pub returns-in_err-count-clause-answer : goal.returns-in_err-count-clause-answer
returns-in_err-count-clause-answer g c =
    let told = err_from_is_err_and c.from_residual-in_err-count.result c.from_residual-in_err-count.ensures.1 in
    rw (told.1, told.2) (AnswersRead-refused _ c.args.limit c.in_err-count.field-0.0
    (told_not_long c.read_some.new.fault c.in_err-count.field-0.0 c.in_err-count.ensures.told))

pub returns-in_err-count-clause-kept : goal.returns-in_err-count-clause-kept
returns-in_err-count-clause-kept g c =
    let told = err_from_is_err_and c.from_residual-in_err-count.result c.from_residual-in_err-count.ensures.1 in
    rw (told.1, told.2) (KeepsFault-refused _ c.read_some.new.fault c.in_err-count.field-0.0 c.in_err-count.ensures.told)

pub returns-then-count-left-clause-most : goal.returns-then-count-left-clause-most
returns-then-count-left-clause-most g c =
    let read = c.in_ok-count.ensures in
    let lost = c.loop-turn.invariant in
    TakesAtMost-more _ _ _ c.loop-turn.bytes.items c.read_some.new.block c.in_ok-count.count c.args.limit lost.few
    (omega (arith, read.most, c.len.ensures)) read.within lost.lost read.bytes

pub returns-in_err-extend_from_slice-clause-most : goal.returns-in_err-extend_from_slice-clause-most
returns-in_err-extend_from_slice-clause-most g c =
    let read = c.in_ok-count.ensures in
    let lost = c.loop-turn.invariant in
    TakesAtMost-more _ _ _ c.loop-turn.bytes.items c.read_some.new.block c.in_ok-count.count c.args.limit lost.few
    (omega (arith, read.most, c.len.ensures)) read.within lost.lost read.bytes
