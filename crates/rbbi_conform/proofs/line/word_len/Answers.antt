use Rattle.std.proofs.Common.{sym, ◌∙◌, arith}
use Rattle.std.proofs.lemmas.List.Sums.{position_or_len_is}
use Rattle.rbbi_text.specs.LineParts.{is_blank}
use Rattle.rbbi_conform.proofs.line.word_len.Goals as goal

pub returns-then-is_blank-clause-place : goal.returns-then-is_blank-clause-place
returns-then-is_blank-clause-place c =
    sym (position_or_len_is is_blank c.args.text.now c.loop-place.place 0 (omega arith) c.loop-place.invariant (λ l. sym c.is_blank.ensures
    ∙ c.if-is_blank.true))

pub returns-clause-place : goal.returns-clause-place
returns-clause-place c =
    sym (position_or_len_is is_blank c.args.text.now _ 0 (omega arith) (λ k l. c.loop-place.invariant k (omega arith)) (λ l. absurd (omega arith)))
