use Rattle.std.proofs.Common.{arith, get_or}
use Rattle.std.proofs.lemmas.Nat.{and_le_l}
use Rattle.rbbi_bits.proofs.Rows.{words_meet, words_apart}
use Rattle.rbbi_bits.proofs.Words.{and_within}
use Rattle.rbbi_bits.proofs.combine.meet_within.Goals as goal

pub returns-then-these-i-ne0-clause-some : goal.returns-then-these-i-ne0-clause-some
returns-then-these-i-ne0-clause-some c =
    λ _. words_meet c.args.these.now c.args.those.now c.loop-i.i c.if-these-i-ne0.true
    (omega (arith, c.type_inv.these c.loop-i.i, and_le_l (get_or c.args.these.now c.loop-i.i 0) (get_or c.args.those.now c.loop-i.i 0)))

pub returns-clause-none : goal.returns-clause-none
returns-clause-none c = λ _.
    words_apart c.args.these.now c.args.those.now
    (and_within c.args.these.now c.args.those.now c.args.span.from c.args.span.to c.loop-i.i c.requires.span (omega arith) c.loop-i.invariant)
