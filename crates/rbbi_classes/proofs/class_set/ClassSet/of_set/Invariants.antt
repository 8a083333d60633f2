use Rattle.std.proofs.Common.{ℕ, ◌↔◌, take}
use Rattle.rbbi_model.specs.Ranges.{Has}
use Rattle.rbbi_classes.specs.Classes.{HasMember, IsFirstOfClass}
use Rattle.rbbi_classes.proofs.class_set.ClassSet.of_set.Given as goal

abbrev pub invariant-loop-range : goal.invariant-loop-range
invariant-loop-range l = (c : ℕ) → IsFirstOfClass l.layout c → HasMember l.layout l.classes c ↔ Has (take l.range-index l.range-items) c
