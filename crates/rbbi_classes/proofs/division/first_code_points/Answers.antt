-- The bounds so far are where the numbers of the steps so far come for the first time.
use Rattle.std.proofs.Common.{get_or, ap, inl, inr, ◌∙◌, ◌≡◌, arith}
use Rattle.std.proofs.lemmas.List.{get_or_default}
use Rattle.rbbi_classes.specs.declared.steps.Step.{Step}
use Rattle.rbbi_classes.proofs.StepFirsts.{firsts-none, firsts-all, firsts-step}
use Rattle.rbbi_classes.proofs.division.first_code_points.Goals as goal
use Rattle.rbbi_classes.proofs.division.first_code_points.Goals.{then-step-len+in_ok-push, else-step-len}

pub loop-step-init : goal.loop-step-init
loop-step-init c = firsts-none c.args.steps.now c.new-bounds.result.items c.requires.form c.requires.order c.new-bounds.ensures.items

pub loop-step-preserved : goal.loop-step-preserved
loop-step-preserved c =
    let steps = c.args.steps.now in
    let i = c.loop-step.step-index in
    let none : Step = record { start = 0; number = 0 } in
    let step = get_or steps i none in
    let is : step ≡ get_or steps i step = get_or_default steps i none step c.loop-step-test.true in
    firsts-step steps i c.loop-step.bounds.items step c.loop-step-test.true is c.loop-step.invariant c.if-step-len.bounds.items
    (elim c.if-step-len.branch [
      | then-step-len+in_ok-push w ↦
          inl (omega (arith, w.if-step-len.true, c.loop-step.bounds.ok.0), ap (λ v. v.items) w.bounds-is ∙ w.in_ok-push.ensures.items)
      | else-step-len w ↦ inr (omega (arith, w.if-step-len.false, c.loop-step.bounds.ok.0), ap (λ v. v.items) w.bounds-is)
    ])

pub returns : goal.returns
returns c =
    let all = firsts-all c.args.steps.now c.loop-step.step-index c.loop-step.bounds.items c.loop-step-test.false c.loop-step.invariant in
    record { form = all.0; within = all.1; first = all.2; least = all.3 }
