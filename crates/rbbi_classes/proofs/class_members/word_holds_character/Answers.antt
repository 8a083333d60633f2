-- A class that a character begins ends the walk, and another one that the set has is begun by a surrogate.
use Rattle.std.proofs.Common.{◌<◌, ◌+◌, ◌*◌, ◌⊎◌, sym, ◌∙◌, inl, inr, arith}
use Rattle.rbbi_classes.proofs.ClassBounds.{class-within}
use Rattle.rbbi_classes.proofs.ClassWalks.{class-of-bit, no-class-of-bit, surrogates-skip, surrogates-join, surrogates-class, character-of-class}
use Rattle.rbbi_classes.proofs.class_members.word_holds_character.Goals as goal
use Rattle.rbbi_classes.proofs.class_members.word_holds_character.Goals.{then-is_set+else-c-lt55296+else-c-gt57343, else-is_set}

pub loop-bit-preserved : goal.loop-bit-preserved
loop-bit-preserved c =
    let bounds = c.args.layout.now in
    let set = c.args.set.now in
    let bit = c.loop-bit.bit in
    let first = 64 * c.args.i in
    let small : bit < 64 = omega arith in
    elim c.if-is_set.branch [
      | then-is_set+else-c-lt55296+else-c-gt57343 w ↦
          surrogates-join bounds set first (first + bit) (first + (bit + 1)) c.loop-bit.invariant
          (surrogates-class bounds w.first_of-c.ensures.form set (first + bit) w.first_of-c.result w.first_of-c.ensures.value (first + (bit + 1)) (omega arith)
          (omega arith) (omega arith))
      | else-is_set w ↦
          surrogates-skip bounds set first (first + bit) (first + (bit + 1)) c.loop-bit.invariant
          (no-class-of-bit set c.args.i bit c.word-word.result small c.word-word.ensures bounds (sym c.is_set.ensures ∙ w.if-is_set.false))
    ]

pub returns-then-c-lt55296-clause-some : goal.returns-then-c-lt55296-clause-some
returns-then-c-lt55296-clause-some c = λ t.
    let bounds = c.args.layout.now in
    let set = c.args.set.now in
    let bit = c.loop-bit.bit in
    let class = 64 * c.args.i + bit in
    let has = class-of-bit set c.args.i bit c.word-word.result (omega arith) c.word-word.ensures (sym c.is_set.ensures ∙ c.if-is_set.true) in
    let some : (c.first_of-c.result < 0xD800) ⊎ (0xDFFF < c.first_of-c.result) =
    elim c.then-c-lt55296.either [ inl before ↦ inl before | inr behind ↦ inr behind.1 ] in
    character-of-class bounds c.first_of-c.ensures.form set class c.first_of-c.result c.first_of-c.ensures.value (omega arith) has some

pub returns-clause-none : goal.returns-clause-none
returns-clause-none c = λ none.
    let bounds = c.args.layout.now in
    surrogates-skip bounds c.args.set.now (64 * c.args.i) (64 * c.args.i + c.loop-bit.bit) (64 * c.args.i + 64) c.loop-bit.invariant
    (λ code member from to. omega (arith, class-within bounds code))
