-- No code point of the stretch is in a range, or all are in the next one.
use Rattle.std.proofs.Common.{ap, ◌∙◌, arith}
use Rattle.std.proofs.lemmas.List.{get_or_default}
use Rattle.rbbi_model.specs.Ranges.{Range}
use Rattle.rbbi_sets.proofs.Coverage.{covers-at}
use Rattle.rbbi_sets.proofs.Places.{covers-past, covers-gap}
use Rattle.rbbi_sets.proofs.Rise.{rising-range}
use Rattle.rbbi_sets.proofs.sweep.stretch_from.Goals as goal

pub returns-then-next-ranges-clause-same : goal.returns-then-next-ranges-clause-same
returns-then-next-ranges-clause-same c = λ code l m. covers-past c.args.ranges.now c.args.at c.args.next code c.requires.place (omega arith) l

pub returns-then-at-range-clause-end : goal.returns-then-at-range-clause-end
returns-then-at-range-clause-end c =
    let d = c.index-ranges-next.result in
    let low = ap (λ (r : Range). r.low) (c.range.view_is ∙ c.index-ranges-next.is) in
    let inside = rising-range 0 c.args.ranges.now c.requires.rising c.args.next d (omega arith) in
    omega (arith, low, inside.0, inside.1)

pub returns-then-at-range-clause-one_range : goal.returns-then-at-range-clause-one_range
returns-then-at-range-clause-one_range c = λ e l.
    let d = c.index-ranges-next.result in
    let low = ap (λ (r : Range). r.low) (c.range.view_is ∙ c.index-ranges-next.is ∙ get_or_default c.args.ranges.now c.args.next d e l) in
    omega (arith, low, (rising-range 0 c.args.ranges.now c.requires.rising c.args.next e l).0)

pub returns-then-at-range-clause-same : goal.returns-then-at-range-clause-same
returns-then-at-range-clause-same c = λ code l m.
    let d = c.index-ranges-next.result in
    let low = ap (λ (r : Range). r.low) (c.range.view_is ∙ c.index-ranges-next.is) in
    covers-gap c.args.ranges.now c.args.at c.args.next code d c.requires.rising c.requires.place (omega arith) l (omega (arith, low))

pub overflow_add-result : goal.overflow_add-result
overflow_add-result c =
    let d = c.index-ranges-next.result in
    let high = ap (λ (r : Range). r.high) (c.range.view_is ∙ c.index-ranges-next.is) in
    omega (arith, high, (rising-range 0 c.args.ranges.now c.requires.rising c.args.next d (omega arith)).1)

pub returns-clause-end : goal.returns-clause-end
returns-clause-end c =
    let d = c.index-ranges-next.result in
    let high = ap (λ (r : Range). r.high) (c.range.view_is ∙ c.index-ranges-next.is) in
    omega (arith, high, (rising-range 0 c.args.ranges.now c.requires.rising c.args.next d (omega arith)).1)

pub returns-clause-same : goal.returns-clause-same
returns-clause-same c = λ code l m.
    let d = c.index-ranges-next.result in
    let low = ap (λ (r : Range). r.low) (c.range.view_is ∙ c.index-ranges-next.is) in
    let high = ap (λ (r : Range). r.high) (c.range.view_is ∙ c.index-ranges-next.is) in
    covers-at c.args.ranges.now c.args.next d code (omega arith) (omega (arith, low)) (omega (arith, high))
