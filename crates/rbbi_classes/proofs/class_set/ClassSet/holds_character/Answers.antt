-- No class is in front of the set's words, and a word that is 0 has none.
use Rattle.std.proofs.Common.{◌≡◌, ◌+◌, ◌*◌, ◌∙◌, sym, subst, arith}
use Rattle.rbbi_classes.specs.inner.ClassRanges.{AreSurrogates}
use Rattle.rbbi_classes.proofs.ClassWalks.{none-before, no-class-of-zero, surrogates-skip, surrogates-join}
use Rattle.rbbi_classes.proofs.class_set.ClassSet.holds_character.Goals as goal
use Rattle.rbbi_classes.proofs.class_set.ClassSet.holds_character.Goals.{
  else-word-ne0-via-then-word-ne0+else-word_holds_character,
  else-word-ne0-via-else-word-ne0,
}

pub loop-i-init : goal.loop-i-init
loop-i-init c = λ code first member from to. absurd (none-before c.args.layout.now c.args.self.now code member from (omega (arith, to, c.from-i.ensures)))

pub loop-i-preserved : goal.loop-i-preserved
loop-i-preserved c =
    let bounds = c.args.layout.now in
    let set = c.args.self.now in
    let i = c.loop-i.i in
    let next : 64 * i + 64 ≡ 64 * (i + 1) = omega arith in
    elim c.else-word-ne0.branch [
      | else-word-ne0-via-then-word-ne0+else-word_holds_character w ↦
          surrogates-join bounds set 0 (64 * i) (64 * (i + 1)) c.loop-i.invariant
          (subst (λ n. AreSurrogates bounds set (64 * i) n) next (w.word_holds_character.ensures.none w.if-word_holds_character.false))
      | else-word-ne0-via-else-word-ne0 w ↦
          surrogates-skip bounds set 0 (64 * i) (64 * (i + 1)) c.loop-i.invariant
          (no-class-of-zero bounds set i (sym c.word.ensures ∙ w.if-word-ne0.false))
    ]
