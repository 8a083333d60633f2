use Rattle.std.proofs.Common.{rules, [], arith}
use Rattle.rbbi_model.specs.Rules.{leaf_count}
use Rattle.rbbi_resolve.specs.RuleTrees.{tree_of}
use Rattle.rbbi_resolve.specs.declared.rules.Tree.TheViews.{the_lemmas}
use Rattle.rbbi_positions.proofs.Folds.{same_leaves}
use Rattle.rbbi_positions.proofs.Parts.{count_sequence, count_choice, sequence_done, choice_done}
use Rattle.rbbi_positions.proofs.count.+count.Goals as goal

pub count-leaves-requires : goal.count-leaves-requires
count-leaves-requires t c = (
  search (rules, the_lemmas),
  λ sets. omega (arith, c.requires sets, c.loop-part.invariant sets, count_sequence (tree_of sets) _ _ _ c.loop-part-test.true c.part-item.is),
)

pub overflow_add-leaves : goal.overflow_add-leaves
overflow_add-leaves t c =
    omega (arith, c.requires [], c.loop-part.invariant [], c.count-leaves.ensures [], count_sequence (tree_of []) _ _ _ c.loop-part-test.true c.part-item.is)

pub loop-part-preserved : goal.loop-part-preserved
loop-part-preserved t c =
    λ sets. omega (arith, c.loop-part.invariant sets, c.count-leaves.ensures sets, count_sequence (tree_of sets) _ _ _ c.loop-part-test.true c.part-item.is)

pub returns-after-loop-part : goal.returns-after-loop-part
returns-after-loop-part t c = λ sets. omega (
  arith,
  c.loop-part.invariant sets,
  sequence_done leaf_count (tree_of sets) c.deref-part-items.result.now c.loop-part.part-index c.loop-part-test.false,
)

pub count-leaves-requires-in-loop-part-2 : goal.count-leaves-requires-in-loop-part-2
count-leaves-requires-in-loop-part-2 t c = (
  search (rules, the_lemmas),
  λ sets. omega (arith, c.requires sets, c.loop-part-2.invariant sets, count_choice (tree_of sets) _ _ _ c.loop-part-2-test.true c.part-item-in-loop-part-2.is),
)

pub overflow_add-leaves-in-loop-part-2 : goal.overflow_add-leaves-in-loop-part-2
overflow_add-leaves-in-loop-part-2 t c =
    let next = count_choice (tree_of []) _ _ _ c.loop-part-2-test.true c.part-item-in-loop-part-2.is in
    omega (arith, c.requires [], c.loop-part-2.invariant [], c.count-leaves-in-loop-part-2.ensures [], next)

pub loop-part-2-preserved : goal.loop-part-2-preserved
loop-part-2-preserved t c =
    λ sets. let next = count_choice (tree_of sets) _ _ _ c.loop-part-2-test.true c.part-item-in-loop-part-2.is in
    omega (arith, c.loop-part-2.invariant sets, c.count-leaves-in-loop-part-2.ensures sets, next)

pub returns-after-loop-part-2 : goal.returns-after-loop-part-2
returns-after-loop-part-2 t c = λ sets. omega (
  arith,
  c.loop-part-2.invariant sets,
  choice_done leaf_count (tree_of sets) c.deref-part-items-in-Alt.result.now c.loop-part-2.part-index c.loop-part-2-test.false,
)

pub count-requires : goal.count-requires
count-requires t c = (
  search (rules, the_lemmas),
  λ sets. omega (arith, c.requires sets, same_leaves sets _ _ _ _ c.in-Rep.is c.deref.ensures),
)

pub returns-in-Rep : goal.returns-in-Rep
returns-in-Rep t c = λ sets. omega (arith, c.count.ensures sets, same_leaves sets _ _ _ _ c.in-Rep.is c.deref.ensures)
