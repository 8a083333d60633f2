-- The steps so far tell apart the members of the ranges so far.
use Rattle.std.proofs.Common.{◌≡◌, ◌+◌, ◌-◌, ◌∷◌, [], get_or, refl, ap, sym, subst, ◌∙◌, inl, inr, arith}
use Rattle.std.proofs.lemmas.Bool.{false≢true}
use Rattle.std.proofs.lemmas.List.{get_or_default}
use Rattle.rbbi_model.specs.Ranges.{Range}
use Rattle.rbbi_classes.specs.inner.Steps.{Separate, DontSeparateMore}
use Rattle.rbbi_classes.proofs.Stepping.{steps-form}
use Rattle.rbbi_classes.proofs.SetSteps.{IsInside, ranges-none, ranges-more, ranges-separate, ranges-joint}
use Rattle.rbbi_classes.proofs.steps.steps_of_set.Goals as goal
use Rattle.rbbi_classes.proofs.steps.steps_of_set.Goals.{After-ranges-range-items, then-has, else-has}
use Rattle.rbbi_classes.proofs.steps.steps_of_set.Goals.{then-range-gt0+in_ok-push, else-range-gt0, then-range-lt-LAST+in_ok-push-2, else-range-lt-LAST}

-- the number of members
inside : (c : After-ranges-range-items) → IsInside c.ranges-range-items.result.now c.if-has.inside
inside c =
    rw c.ranges-range-items.ensures.value
    (elim c.if-has.branch [
      | then-has w ↦ inl (c.has.ensures.0 w.if-has.true, w.inside-is)
      | else-has w ↦ inr (λ m. false≢true (sym w.if-has.false ∙ c.has.ensures.1 m), w.inside-is)
    ])

pub loop-range-init : goal.loop-range-init
loop-range-init c =
    ranges-none c.ranges-range-items.result.now c.if-has.inside c.new-steps.result.items c.ranges-range-items.ensures.form (inside c) c.new-steps.ensures.items

pub loop-range-preserved : goal.loop-range-preserved
loop-range-preserved c =
    let set = c.ranges-range-items.result.now in
    let k = c.loop-range.range-index in
    let range : Range = record { low = c.range.inside.low; high = c.range.inside.high } in
    let is : range ≡ get_or set k range = c.range.view_is ∙ c.range-item.is ∙ get_or_default set k c.range-item.result range c.loop-range-test.true in
    ranges-more set k c.if-has.inside (1 - c.if-has.inside) c.loop-range.steps.items c.if-range-gt0.steps.items c.if-range-lt-LAST.steps.items range
    c.ranges-range-items.ensures.form c.loop-range-test.true is (inside (goal.at.loop-range-preserved c).After-ranges-range-items) refl c.loop-range.invariant
    (elim c.if-range-gt0.branch [
      | then-range-gt0+in_ok-push w ↦ inl (omega (arith, w.if-range-gt0.true), ap (λ v. v.items) w.steps-is ∙ w.in_ok-push.ensures.items)
      | else-range-gt0 w ↦ inr (omega (arith, w.if-range-gt0.false), ap (λ v. v.items) w.steps-is)
    ])
    (elim c.if-range-lt-LAST.branch [
      | then-range-lt-LAST+in_ok-push-2 w ↦ inl (omega (arith, w.if-range-lt-LAST.true), ap (λ v. v.items) w.steps-is ∙ w.in_ok-push-2.ensures.items)
      | else-range-lt-LAST w ↦ inr (omega (arith, w.if-range-lt-LAST.false), ap (λ v. v.items) w.steps-is)
    ])

pub returns : goal.returns
returns c =
    let set = c.ranges-range-items.result.now in
    let steps = c.loop-range.steps.items in
    let h = c.loop-range.invariant in
    let separate = ranges-separate set c.loop-range.range-index c.if-has.inside steps c.ranges-range-items.ensures.form c.loop-range-test.false h in
    record {
      form = steps-form 1 steps (h.at + 1) (h.done (h.at + 1) (omega arith) (omega arith));
      order = h.order;
      separate = subst (λ set. Separate steps (set ∷ [])) c.ranges-range-items.ensures.value separate;
      joint =
          subst (λ set. DontSeparateMore steps (set ∷ [])) c.ranges-range-items.ensures.value
          (ranges-joint set c.loop-range.range-index c.if-has.inside steps
          (elim (inside (goal.at.returns c).After-ranges-range-items) [ inl zero ↦ omega (arith, zero.1) | inr one ↦ omega (arith, one.1) ])
          c.loop-range-test.false h);
    }
