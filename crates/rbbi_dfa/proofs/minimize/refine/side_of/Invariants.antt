-- the sides of the rows before this one
use Rattle.std.proofs.Common.{◌≡◌, map, take, nat_eq}
use Rattle.rbbi_dfa.proofs.minimize.refine.side_of.Given as goal

abbrev pub invariant-loop-of : goal.invariant-loop-of
invariant-loop-of l = l.inside.items ≡ map (λ of. nat_eq of l.class) (take l.of-index l.classes)
