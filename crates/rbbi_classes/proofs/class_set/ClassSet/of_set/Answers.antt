-- The classes so far are those of the ranges so far.
use Rattle.std.proofs.Common.{ℕ, ◌↔◌, subst, arith}
use Rattle.rbbi_model.specs.Ranges.{Range, InRange}
use Rattle.rbbi_classes.specs.Classes.{HasMember, IsFirstOfClass}
use Rattle.rbbi_classes.proofs.ClassWalks.{classes-more}
use Rattle.rbbi_classes.proofs.class_set.ClassSet.of_set.Goals as goal

pub loop-range-preserved : goal.loop-range-preserved
loop-range-preserved c =
    let bounds = c.args.layout.now in
    let ranges = c.ranges-range-items.result.now in
    let i = c.loop-range.range-index in
    let within : Range → Type 0 = λ r. (code : ℕ) → IsFirstOfClass bounds code → HasMember bounds c.in_ok-more.more code ↔ InRange r code in
    let more = subst within c.range.view_is c.in_ok-more.ensures in
    classes-more bounds c.loop-range.classes c.in_ok-more.more c.in_ok-classes.classes ranges i c.range-item.result (omega arith) c.range-item.is
    c.loop-range.invariant more (c.in_ok-classes.ensures bounds)
