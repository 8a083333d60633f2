-- A member's class is one of the layout, and in a word that isn't 0.
use Rattle.std.proofs.Common.{◌/◌, refl, inl, inr, arith}
use Rattle.std.proofs.lemmas.Bool.{cases_lt}
use Rattle.rbbi_classes.specs.Classes.{class_of}
use Rattle.rbbi_classes.proofs.ClassBounds.{class-within}
use Rattle.rbbi_classes.proofs.ClassWalks.{zero-has-none}
use Rattle.rbbi_classes.proofs.ClassWords.{word_at-past}
use Rattle.rbbi_classes.proofs.class_members.word_count.Goals as goal

pub returns-clause-all : goal.returns-clause-all
returns-clause-all c = λ code member.
    let bounds = c.args.layout.now in
    let class = class_of bounds code in
    let within = class-within bounds code in
    elim (cases_lt (class / 64) c.end_word.result) [
      | inl before ↦ omega (arith, within)
      | inr from ↦
          let past = word_at-past c.args.set.now (class / 64) (omega (arith, c.end_word.ensures, from)) in
          absurd (zero-has-none bounds c.args.set.now (class / 64) code past refl member)
    ]
