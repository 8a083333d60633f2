-- The first range's first code point is the least member.
use Rattle.std.proofs.Common.{ap, ◌∙◌, arith}
use Rattle.rbbi_model.specs.Ranges.{Range}
use Rattle.rbbi_sets.proofs.Meanings.{first_is_least}
use Rattle.rbbi_sets.proofs.set.CodeSet.first.Goals as goal

pub returns-clause-least : goal.returns-clause-least
returns-clause-least c =
    let read = ap (λ (r : Range). r.low) (c.range.view_is ∙ c.index-range.ensures) in
    λ code h.
    let least = first_is_least c.self.inside.ranges.items c.index-range.result.now code c.self.invariant (rw c.self.view_is h) in
    omega (arith, read, least)
