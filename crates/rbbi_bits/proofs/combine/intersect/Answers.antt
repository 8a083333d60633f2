use Rattle.std.proofs.Common.{get_or, arith}
use Rattle.std.proofs.lemmas.Nat.{and_le_l}
use Rattle.rbbi_bits.proofs.Rows.{and_words}
use Rattle.rbbi_bits.proofs.Words.{and_each}
use Rattle.rbbi_bits.proofs.combine.intersect.Goals as goal

pub returns-clause-bits : goal.returns-clause-bits
returns-clause-bits c =
    and_words c.loop-i.row c.args.these.now c.args.those.now
    (and_each c.loop-i.row c.args.these.now c.args.those.now c.loop-i.i (omega arith) (omega arith) (omega arith) c.loop-i.invariant)

pub returns-clause-words : goal.returns-clause-words
returns-clause-words c = λ k.
    let each = and_each c.loop-i.row c.args.these.now c.args.those.now c.loop-i.i (omega arith) (omega arith) (omega arith) c.loop-i.invariant k in
    omega (arith, each, c.type_inv.these k, and_le_l (get_or c.args.these.now k 0) (get_or c.args.those.now k 0))
