use Rattle.std.proofs.Common.{arith}
use Rattle.rbbi_bits.proofs.Rows.{or_and_words}
use Rattle.rbbi_bits.proofs.Words.{or_and_each}
use Rattle.rbbi_bits.proofs.combine.unite_common.Goals as goal

pub returns : goal.returns
returns c =
    or_and_words c.loop-i.row c.args.row.now c.args.these.now c.args.those.now
    (or_and_each c.loop-i.row c.args.row.now c.args.these.now c.args.those.now c.loop-i.i (omega arith) (omega arith) (omega arith)
    (omega arith) c.loop-i.invariant.0)
