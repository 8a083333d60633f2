use Rattle.std.proofs.Common.{◌+◌, ◌&&◌, ◌||◌, drop, sym, ap, ◌∙◌}
use Rattle.std.specs.Prelude.{map}
use Rattle.rbbi_model.specs.Spelling.{sequence_of, choice_of}
use Rattle.rbbi_resolve.specs.RuleTrees.{tree_of, repeated}
use Rattle.rbbi_positions.specs.inner.Trees.{is_nullable}
use Rattle.rbbi_positions.proofs.Folds.{tree_of_repeat}
use Rattle.rbbi_positions.proofs.Empties.{sequence_step, choice_step, sequence_end, choice_end}
use Rattle.rbbi_positions.proofs.empty.+is_empty.Goals as goal

pub returns-then-not-is_empty : goal.returns-then-not-is_empty
returns-then-not-is_empty t c = λ sets.
    let rest = is_nullable (sequence_of (map (tree_of sets) (drop (c.loop-part.part-index + 1) c.deref-part-items.result.now))) in
    sym (c.loop-part.invariant sets ∙ sequence_step (tree_of sets) _ _ _ c.loop-part-test.true c.part-item.is
    ∙ ap (λ test. test && rest) (sym (c.if-not-is_empty.ensures sets)))

pub loop-part-preserved : goal.loop-part-preserved
loop-part-preserved t c = λ sets.
    let rest = is_nullable (sequence_of (map (tree_of sets) (drop (c.loop-part.part-index + 1) c.deref-part-items.result.now))) in
    c.loop-part.invariant sets ∙ sequence_step (tree_of sets) _ _ _ c.loop-part-test.true c.part-item.is
    ∙ ap (λ test. test && rest) (sym (c.if-not-is_empty.ensures sets))

pub returns-then-is_empty : goal.returns-then-is_empty
returns-then-is_empty t c = λ sets.
    let rest = is_nullable (choice_of (map (tree_of sets) (drop (c.loop-part-2.part-index + 1) c.deref-part-items-in-Alt.result.now))) in
    sym (c.loop-part-2.invariant sets ∙ choice_step (tree_of sets) _ _ _ c.loop-part-2-test.true c.part-item-in-loop-part-2.is
    ∙ ap (λ test. test || rest) (sym (c.if-is_empty.ensures sets)))

pub loop-part-2-preserved : goal.loop-part-2-preserved
loop-part-2-preserved t c = λ sets.
    let rest = is_nullable (choice_of (map (tree_of sets) (drop (c.loop-part-2.part-index + 1) c.deref-part-items-in-Alt.result.now))) in
    c.loop-part-2.invariant sets ∙ choice_step (tree_of sets) _ _ _ c.loop-part-2-test.true c.part-item-in-loop-part-2.is
    ∙ ap (λ test. test || rest) (sym (c.if-is_empty.ensures sets))

pub returns-after-loop-part : goal.returns-after-loop-part
returns-after-loop-part t c =
    λ sets. sym (c.loop-part.invariant sets ∙ sequence_end (tree_of sets) c.deref-part-items.result.now c.loop-part.part-index c.loop-part-test.false)

pub returns-after-loop-part-2 : goal.returns-after-loop-part-2
returns-after-loop-part-2 t c =
    λ sets. sym (c.loop-part-2.invariant sets ∙ choice_end (tree_of sets) c.deref-part-items-in-Alt.result.now c.loop-part-2.part-index
    c.loop-part-2-test.false)

pub returns-in-Once : goal.returns-in-Once
returns-in-Once t c = λ sets.
    let whole = ap (λ x. is_nullable (tree_of sets x)) c.in-Rep.is ∙ ap is_nullable (tree_of_repeat sets c.in-Rep.quant c.in-Rep.part)
    ∙ ap (λ quant. is_nullable (repeated quant (tree_of sets c.in-Rep.part.value))) c.in-Once.is in
    c.is_empty-in-Once.ensures sets ∙ ap (λ x. is_nullable (tree_of sets x)) c.deref.ensures ∙ sym whole

pub returns-in-Plus : goal.returns-in-Plus
returns-in-Plus t c = λ sets.
    let whole = ap (λ x. is_nullable (tree_of sets x)) c.in-Rep.is ∙ ap is_nullable (tree_of_repeat sets c.in-Rep.quant c.in-Rep.part)
    ∙ ap (λ quant. is_nullable (repeated quant (tree_of sets c.in-Rep.part.value))) c.in-Plus.is in
    c.is_empty-in-Plus.ensures sets ∙ ap (λ x. is_nullable (tree_of sets x)) c.deref-in-Plus.ensures ∙ sym whole
