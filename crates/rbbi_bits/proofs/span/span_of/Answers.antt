use Rattle.std.proofs.Common.{arith}
use Rattle.rbbi_bits.proofs.Words.{IsSpan-from_loop}
use Rattle.rbbi_bits.proofs.span.span_of.Goals as goal

pub returns : goal.returns
returns c =
    let l = c.loop-i in
    IsSpan-from_loop c.args.row.now l.from l.to l.i (omega arith) (omega arith) l.invariant.before l.invariant.past
