use Rattle.std.proofs.Common.{◌+◌, ◌*◌}
use Rattle.rbbi_classes.specs.inner.ClassRanges.{AreSurrogates}
use Rattle.rbbi_classes.proofs.class_members.word_holds_character.Given as goal

abbrev pub invariant-loop-bit : goal.invariant-loop-bit
invariant-loop-bit l = AreSurrogates l.layout l.set (64 * l.i) (64 * l.i + l.bit)
