-- The lesser of two starts is one of them.
use Rattle.std.proofs.Common.{◌≡◌, get_or, ap, ◌∙◌, inl, inr, arith}
use Rattle.std.proofs.lemmas.Bool.{cases_lt}
use Rattle.std.proofs.lemmas.List.{get_or_default}
use Rattle.rbbi_classes.specs.declared.steps.Step.{Step}
use Rattle.rbbi_classes.proofs.steps.next_start.Goals as goal

pub returns-clause-one : goal.returns-clause-one
returns-clause-one c =
    let none : Step = record { start = 0; number = 0 } in
    let left = get_or c.args.left.now c.args.i none in
    let right = get_or c.args.right.now c.args.j none in
    elim (cases_lt left.start right.start) [
      | inl before ↦
          let is : left.start ≡ c.min.result = omega (arith, c.min.ensures) in
          inl (c.if-i-left.false, λ d. ap (λ (s : Step). s.start) (get_or_default c.args.left.now c.args.i d none c.if-i-left.false) ∙ is)
      | inr upto ↦
          let is : right.start ≡ c.min.result = omega (arith, c.min.ensures) in
          inr (c.if-j-right.false, λ d. ap (λ (s : Step). s.start) (get_or_default c.args.right.now c.args.j d none c.if-j-right.false) ∙ is)
    ]
