use Rattle.std.proofs.Common.{arith, ap, ◌∙◌, List, ℕ, map, nat_eq}
use Rattle.std.proofs.lemmas.List.{take_all}
use Rattle.rbbi_dfa.proofs.Refining.{AreSides-map, length-sides}
use Rattle.rbbi_dfa.proofs.minimize.refine.side_of.Goals as goal

pub returns-clause-sides : goal.returns-clause-sides
returns-clause-sides c = AreSides-map c.args.classes.now c.args.class _ c.loop-of.of-index c.loop-of.invariant (omega arith)

pub returns-clause-length : goal.returns-clause-length
returns-clause-length c = length-sides c.args.classes.now c.args.class _ c.loop-of.of-index c.loop-of.invariant (omega arith)

pub returns-clause-exact : goal.returns-clause-exact
returns-clause-exact c =
    c.loop-of.invariant ∙ ap (λ (xs : List ℕ). map (λ of. nat_eq of c.args.class) xs) (take_all c.loop-of.of-index c.args.classes.now (omega arith))
