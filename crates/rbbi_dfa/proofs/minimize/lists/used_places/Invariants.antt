-- the places that are one of the classes' so far
use Rattle.std.proofs.Common.{◌≡◌, length}
use Rattle.rbbi_dfa.proofs.Numbering.{AreUsedUpTo}
use Rattle.rbbi_dfa.proofs.minimize.lists.used_places.Given as goal

abbrev pub invariant-loop-place : goal.invariant-loop-place
invariant-loop-place l = record {
  used : AreUsedUpTo l.class_places l.used.items l.place-index;
  many : length l.used.items ≡ l.count;
}
