-- The halves separate what their sets do, and no more, and so does their common refinement.
use Rattle.std.proofs.Common.{List, subst, sym, arith}
use Rattle.rbbi_model.specs.Ranges.{Range}
use Rattle.rbbi_classes.specs.inner.Steps.{Separate, DontSeparateMore}
use Rattle.rbbi_classes.specs.declared.steps.Step.{Step}
use Rattle.rbbi_classes.proofs.Halving.{one_set, separate-halves, joint-halves}
use Rattle.rbbi_classes.proofs.steps.+steps_of.Goals as goal

pub returns-then-sets-eq1-clause-separate : goal.returns-then-sets-eq1-clause-separate
returns-then-sets-eq1-clause-separate t c =
    subst (λ (sets : List (List Range)). Separate c.in_ok-steps.steps.items sets)
    (one_set c.args.sets.now c.index-sets-0.result (omega arith) c.index-sets-0.is) c.in_ok-steps.ensures.separate

pub returns-then-sets-eq1-clause-joint : goal.returns-then-sets-eq1-clause-joint
returns-then-sets-eq1-clause-joint t c =
    subst (λ (sets : List (List Range)). DontSeparateMore c.in_ok-steps.steps.items sets)
    (one_set c.args.sets.now c.index-sets-0.result (omega arith) c.index-sets-0.is) c.in_ok-steps.ensures.joint

pub returns-clause-separate : goal.returns-clause-separate
returns-clause-separate t c =
    let front = c.split_at.result.0.now in
    let back = c.split_at.result.1.now in
    separate-halves front back c.args.sets.now c.deref.result.now c.deref-2.result.now c.in_ok-steps-2.steps.items (sym c.split_at.ensures.by_index.0)
    (subst (λ (xs : List Step). Separate xs front) (sym c.deref.ensures.value) c.in_ok-left.ensures.separate)
    (subst (λ (xs : List Step). Separate xs back) (sym c.deref-2.ensures.value) c.in_ok-right.ensures.separate)
    c.in_ok-steps-2.ensures.left c.in_ok-steps-2.ensures.right

pub returns-clause-joint : goal.returns-clause-joint
returns-clause-joint t c =
    let front = c.split_at.result.0.now in
    let back = c.split_at.result.1.now in
    joint-halves front back c.args.sets.now c.deref.result.now c.deref-2.result.now c.in_ok-steps-2.steps.items (sym c.split_at.ensures.by_index.0)
    (subst (λ (xs : List Step). DontSeparateMore xs front) (sym c.deref.ensures.value) c.in_ok-left.ensures.joint)
    (subst (λ (xs : List Step). DontSeparateMore xs back) (sym c.deref-2.ensures.value) c.in_ok-right.ensures.joint)
    c.in_ok-steps-2.ensures.joint
