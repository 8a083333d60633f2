use Rattle.std.proofs.Common.{arith}
use Rattle.rbbi_bits.proofs.Rows.{or_words}
use Rattle.rbbi_bits.proofs.Words.{or_within}
use Rattle.rbbi_bits.proofs.combine.unite_within.Goals as goal

pub returns : goal.returns
returns c =
    or_words c.loop-i.row c.args.row.now c.args.other.now
    (or_within c.loop-i.row c.args.row.now c.args.other.now c.args.span.from c.args.span.to c.loop-i.i c.requires.span (omega arith) c.loop-i.invariant.0
    c.loop-i.invariant.1)
