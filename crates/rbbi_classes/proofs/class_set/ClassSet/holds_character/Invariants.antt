use Rattle.std.proofs.Common.{◌*◌}
use Rattle.rbbi_classes.specs.inner.ClassRanges.{AreSurrogates}
use Rattle.rbbi_classes.proofs.class_set.ClassSet.holds_character.Given as goal

abbrev pub invariant-loop-i : goal.invariant-loop-i
invariant-loop-i l = AreSurrogates l.layout l.self 0 (64 * l.i)
