use Rattle.std.proofs.Common.{◌≡◌, ◌≢◌, ◌++◌, ◌∷◌, ◌+◌, [], List, Vec, Global, get_or, refl, sym, ap, ◌∙◌, subst}
use Rattle.rbbi_model.specs.Tables.{CategoryRange}
use Rattle.rbbi_classes.specs.declared.steps.Step.{Step}
use Rattle.rbbi_cats.proofs.Ranging.{RangesSoFar, class_within, range_kept, range_made}
use Rattle.rbbi_cats.proofs.ranges.ranges_of.Goals as goal
use Rattle.rbbi_cats.proofs.ranges.ranges_of.Goals.{then-cat-last+in_ok-push, else-cat-last}

-- what a read past the end would give
none : Step
none = record { start = 0; number = 0 }

pub bounds-categories-step : goal.bounds-categories-step
unfolding none
bounds-categories-step c = class_within c.args.steps.now c.args.categories.now c.loop-step.ranges.items c.loop-step.last c.loop-step.step-index
    (get_or c.args.steps.now c.loop-step.step-index none) none c.loop-step-test.true refl c.loop-step.invariant c.requires.classes

pub loop-step-preserved : goal.loop-step-preserved
unfolding none
loop-step-preserved c =
    let steps = c.args.steps.now in
    let categories = c.args.categories.now in
    let ranges = c.loop-step.ranges.items in
    let last = c.loop-step.last in
    let i = c.loop-step.step-index in
    let step = get_or steps i none in
    let SoFar : List CategoryRange → CategoryRange → Type 0 = λ list range. RangesSoFar steps categories list range (i + 1) in
    let category = ap (λ (range : CategoryRange). range.category) c.last.view_is in
    elim c.if-cat-last.branch [
      | then-cat-last+in_ok-push w ↦
          let new : CategoryRange = record { start = step.start; category = get_or categories step.number 0 } in
          let other : new.category ≢ last.category = λ e. w.if-cat-last.true (e ∙ sym category) in
          let made = range_made steps categories ranges last i step none c.loop-step-test.true refl c.loop-step.invariant new refl refl other in
          let items : w.push.new.self.items ≡ ranges ++ last ∷ [] = w.in_ok-push.ensures.items in
          subst (SoFar c.if-cat-last.ranges.items) (sym w.last-is)
          (subst (λ (v : Vec CategoryRange Global). SoFar v.items new) (sym w.ranges-is)
          (subst (λ (list : List CategoryRange). SoFar list new) (sym items) made))
      | else-cat-last w ↦
          let kept = range_kept steps categories ranges last i step none c.loop-step-test.true refl c.loop-step.invariant (w.if-cat-last.false ∙ category) in
          subst (SoFar c.if-cat-last.ranges.items) (sym w.last-is)
          (subst (λ (v : Vec CategoryRange Global). SoFar v.items last) (sym w.ranges-is) kept)
    ]
