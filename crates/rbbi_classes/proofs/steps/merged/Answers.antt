-- Each turn passes the steps that begin next, and gives a number to the pair of the numbers behind them.
use Rattle.std.proofs.Common.{◌≡◌, ◌≢◌, ℕ, ◌+◌, ◌-◌, ◌<◌, ◌⊎◌, List, [], ◌∷◌, ◌++◌, length, refl, inl, inr}
use Rattle.rbbi_classes.specs.declared.steps.Step.{Step}
use Rattle.rbbi_classes.proofs.StepMerges.{IsMerging, merging-none, merging-smaller, merging-turn, merging-all, merging-joint, order-form}
use Rattle.rbbi_classes.proofs.Stepping.{steps-form}
use Rattle.rbbi_classes.proofs.steps.merged.Goals as goal
use Rattle.rbbi_classes.proofs.steps.merged.Goals.{In_ok-next}

pub merge-init : goal.merge-init
merge-init c = record {
  merging =
      merging-none c.args.left.now c.args.right.now c.new-steps.result.items c.in_ok-pairs.pairs.items.items c.requires.left c.requires.right
      c.new-steps.ensures.items c.in_ok-pairs.ensures.items;
  numbered = c.in_ok-pairs.ensures.numbered;
}

-- what is left of the lists gets shorter
smaller : (c : In_ok-next) →
    (length c.args.left.now - c.walked-of_left.result.passed) + (length c.args.right.now - c.walked-of_right.result.passed)
    < (length c.args.left.now - c.merge.of_left.passed) + (length c.args.right.now - c.merge.of_right.passed)
smaller c =
    let starts = c.next_start-start.ensures in
    let left = c.walked-of_left.ensures in
    let right = c.walked-of_right.ensures in
    merging-smaller c.args.left.now c.args.right.now c.merge.steps.items c.merge.of_left c.merge.of_right c.walked-of_left.result c.walked-of_right.result
    c.merge.pairs.items.items c.merge.number c.next_start-start.result c.merge.invariant.merging starts.left starts.right starts.one left.met left.not_met
    right.met
    right.not_met

-- the pair has its number, whether a step is added or not
turn : (c : In_ok-next) (new : List Step) (last : ℕ) →
    ((c.in_ok-next.next ≢ c.merge.number)
    × (new ≡ c.merge.steps.items ++ (record { start = c.next_start-start.result; number = c.in_ok-next.next }) ∷ [])
    × (last ≡ c.in_ok-next.next))
    ⊎ ((c.in_ok-next.next ≡ c.merge.number) × (new ≡ c.merge.steps.items) × (last ≡ c.merge.number)) →
    IsMerging c.args.left.now c.args.right.now new c.walked-of_left.result c.walked-of_right.result c.number_of.new.self.items.items last
turn c new last pushed =
    let starts = c.next_start-start.ensures in
    let left = c.walked-of_left.ensures in
    let right = c.walked-of_right.ensures in
    merging-turn c.args.left.now c.args.right.now c.merge.steps.items c.merge.of_left c.merge.of_right c.walked-of_left.result c.walked-of_right.result
    c.merge.pairs.items.items c.merge.number c.next_start-start.result c.merge.invariant.merging starts.left starts.right starts.one left.met left.not_met
    right.met
    right.not_met new c.number_of.new.self.items.items c.in_ok-next.next last c.in_ok-next.ensures.number c.in_ok-next.ensures.items pushed

pub merge-smaller-then-next-number : goal.merge-smaller-then-next-number
merge-smaller-then-next-number c = smaller (goal.at.merge-smaller-then-next-number c).In_ok-next

pub merge-preserved-then-next-number : goal.merge-preserved-then-next-number
merge-preserved-then-next-number c = record {
  merging =
      turn (goal.at.merge-preserved-then-next-number c).In_ok-next c.push.new.self.items c.in_ok-next.next
      (inl (c.if-next-number.true, c.in_ok-push.ensures.items, refl));
  numbered = c.in_ok-next.ensures.numbered;
}

pub merge-smaller : goal.merge-smaller
merge-smaller c = smaller (goal.at.merge-smaller c).In_ok-next

pub merge-preserved : goal.merge-preserved
merge-preserved c = record {
  merging =
      turn (goal.at.merge-preserved c).In_ok-next c.merge.steps.items c.merge.number (inr (c.if-next-number.false, refl, refl));
  numbered = c.in_ok-next.ensures.numbered;
}

pub returns : goal.returns
returns c =
    let h = c.merge.invariant.merging in
    let all =
    merging-all c.args.left.now c.args.right.now c.merge.steps.items c.merge.of_left c.merge.of_right c.merge.pairs.items.items c.merge.number h
    c.if-of_left-left.false c.if-of_right-right.false in
    record {
      form = steps-form 1 c.merge.steps.items h.at h.done;
      order = order-form 1 c.merge.steps.items (length c.merge.pairs.items.items) h.order;
      left = λ n m a b e. (all n m e).0;
      right = λ n m a b e. (all n m e).1;
      joint =
          merging-joint c.args.left.now c.args.right.now c.merge.steps.items c.merge.of_left c.merge.of_right c.merge.pairs c.merge.number h
          c.merge.invariant.numbered c.if-of_left-left.false c.if-of_right-right.false;
    }
