-- The next range ends right before the code point, or later.
use Rattle.std.proofs.Common.{ap, ◌∙◌, arith}
use Rattle.rbbi_model.specs.Ranges.{Range}
use Rattle.rbbi_sets.proofs.Places.{next_stays, next_moves}
use Rattle.rbbi_sets.proofs.sweep.next_after.Goals as goal

pub returns-then-range-at-clause-place : goal.returns-then-range-at-clause-place
returns-then-range-at-clause-place c =
    let d = c.index-ranges-next.result in
    let high = ap (λ (r : Range). r.high) (c.range.view_is ∙ c.index-ranges-next.is) in
    next_moves c.args.ranges.now c.args.at c.args.next d c.requires.rising (omega arith) (omega (arith, high))
    (c.requires.one_range d (omega arith))

pub returns-else-range-at-clause-place : goal.returns-else-range-at-clause-place
returns-else-range-at-clause-place c =
    let d = c.index-ranges-next.result in
    let high = ap (λ (r : Range). r.high) (c.range.view_is ∙ c.index-ranges-next.is) in
    next_stays c.args.ranges.now c.args.at c.args.next d c.requires.rising c.requires.ended (omega arith) (omega (arith, high))
