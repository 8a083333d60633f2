use Rattle.std.proofs.Common.{eqb, sym, arith}
use Rattle.std.proofs.lemmas.Bool.{eq-eqb}
use Rattle.std.proofs.lemmas.List.Sums.{position_or_len_is}
use Rattle.rbbi_text.proofs.line_parts.place_or_len.Goals as goal

pub returns-then-found-byte-clause-place : goal.returns-then-found-byte-clause-place
returns-then-found-byte-clause-place c =
    sym (position_or_len_is (λ b. eqb b c.args.byte) c.args.text.now c.loop-place.place 0 (omega arith) c.loop-place.invariant
    (λ l. eq-eqb _ _ c.if-found-byte.true))

pub returns-clause-place : goal.returns-clause-place
returns-clause-place c =
    sym (position_or_len_is (λ b. eqb b c.args.byte) c.args.text.now _ 0 (omega arith) (λ k l. c.loop-place.invariant k (omega arith))
    (λ l. absurd (omega arith)))
