use Rattle.std.proofs.Common.{rules, ◌||◌, [], sym, ap, ◌∙◌, refl, arith}
use Rattle.std.proofs.Math.Bool.{or-false}
use Rattle.rbbi_model.specs.Rules.{leaf_count}
use Rattle.rbbi_resolve.specs.RuleTrees.{tree_of}
use Rattle.rbbi_resolve.specs.declared.rules.Tree.TheViews.{the_lemmas}
use Rattle.rbbi_bits.specs.BitRows.{row_bit}
use Rattle.rbbi_positions.specs.inner.Trees.{begins}
use Rattle.rbbi_positions.proofs.Folds.{same_leaves, of_repeat, tree_of_leaf}
use Rattle.rbbi_positions.proofs.Parts.{count_sequence, count_choice, begins_on, begins_end, choice_on, begins_of, sequence_done, choice_done}
use Rattle.rbbi_positions.proofs.firsts.+add_firsts.Goals as goal

pub insert-requires : goal.insert-requires
insert-requires t c =
    omega (arith, c.requires.within [], ap (λ tree. leaf_count (tree_of [] tree)) c.in-Leaf.is, ap leaf_count (tree_of_leaf [] c.in-Leaf.field-0))

pub add_firsts-requires : goal.add_firsts-requires
add_firsts-requires t c = (
  search (rules, the_lemmas),
  (
    omega (arith, c.requires.short),
    λ sets. omega (arith, c.requires.within sets, c.loop-part.invariant.fits sets, count_sequence (tree_of sets) _ _ _ c.loop-part-test.true c.part-item.is),
  ),
)

pub returns-then-not-is_empty : goal.returns-then-not-is_empty
returns-then-not-is_empty t c = λ sets position.
    begins_end (tree_of sets) _ _ _ c.loop-part-test.true c.part-item.is c.loop-part.start
    position
    (row_bit c.loop-part.row position) (row_bit c.add_firsts.new.row position) (sym (c.is_empty.ensures sets)
    ∙ c.if-not-is_empty.true) (c.add_firsts.ensures sets position)
    ∙ c.loop-part.invariant.bits sets position

pub count-start-requires : goal.count-start-requires
count-start-requires t c =
    λ sets. omega (arith, c.requires.within sets, c.loop-part.invariant.fits sets, count_sequence (tree_of sets) _ _ _ c.loop-part-test.true c.part-item.is)

pub overflow_add-start : goal.overflow_add-start
overflow_add-start t c =
    let next = count_sequence (tree_of []) _ _ _ c.loop-part-test.true c.part-item.is in
    omega (arith, c.requires.within [], c.requires.short, c.loop-part.invariant.fits [], c.count-start.ensures [], next)

pub loop-part-preserved : goal.loop-part-preserved
loop-part-preserved t c = record {
  fits = λ sets. let next = count_sequence (tree_of sets) _ _ _ c.loop-part-test.true c.part-item.is in
      omega (arith, c.loop-part.invariant.fits sets, c.count-start.ensures sets, next);
  bits = λ sets position.
      begins_on (tree_of sets) _ _ _ c.loop-part-test.true c.part-item.is c.loop-part.start
      c.count-start.result position
      (row_bit c.loop-part.row position) (row_bit c.add_firsts.new.row position) (sym (c.is_empty.ensures sets)
      ∙ c.if-not-is_empty.false) (c.count-start.ensures sets) (c.add_firsts.ensures sets position)
      ∙ c.loop-part.invariant.bits sets position;
}

pub add_firsts-requires-in-loop-part-2 : goal.add_firsts-requires-in-loop-part-2
add_firsts-requires-in-loop-part-2 t c = (
  search (rules, the_lemmas),
  (
    omega (arith, c.requires.short),
    λ sets. let next = count_choice (tree_of sets) _ _ _ c.loop-part-2-test.true c.part-item-in-loop-part-2.is in
        omega (arith, c.requires.within sets, c.loop-part-2.invariant.fits sets, next),
  ),
)

pub count-start-requires-in-loop-part-2 : goal.count-start-requires-in-loop-part-2
count-start-requires-in-loop-part-2 t c =
    λ sets. let next = count_choice (tree_of sets) _ _ _ c.loop-part-2-test.true c.part-item-in-loop-part-2.is in
    omega (arith, c.requires.within sets, c.requires.short, c.loop-part-2.invariant.fits sets, next)

pub overflow_add-start-in-loop-part-2 : goal.overflow_add-start-in-loop-part-2
overflow_add-start-in-loop-part-2 t c =
    let next = count_choice (tree_of []) _ _ _ c.loop-part-2-test.true c.part-item-in-loop-part-2.is in
    omega (arith, c.requires.within [], c.requires.short, c.loop-part-2.invariant.fits [], c.count-start-in-loop-part-2.ensures [], next)

pub loop-part-2-preserved : goal.loop-part-2-preserved
loop-part-2-preserved t c = record {
  fits = λ sets. let next = count_choice (tree_of sets) _ _ _ c.loop-part-2-test.true c.part-item-in-loop-part-2.is in
      omega (arith, c.loop-part-2.invariant.fits sets, c.count-start-in-loop-part-2.ensures sets, next);
  bits = λ sets position.
      choice_on (tree_of sets) _ _ _ c.loop-part-2-test.true c.part-item-in-loop-part-2.is
      (λ tree first. begins tree first position) (begins_of position) c.loop-part-2.start c.count-start-in-loop-part-2.result
      (row_bit c.loop-part-2.row position) (row_bit c.add_firsts-in-loop-part-2.new.row position) (c.count-start-in-loop-part-2.ensures sets)
      (c.add_firsts-in-loop-part-2.ensures sets position)
      ∙ c.loop-part-2.invariant.bits sets position;
}

pub add_firsts-requires-in-Rep : goal.add_firsts-requires-in-Rep
add_firsts-requires-in-Rep t c = (
  search (rules, the_lemmas),
  (
    omega (arith, c.requires.short),
    λ sets. omega (arith, c.requires.within sets, same_leaves sets _ _ _ _ c.in-Rep.is c.deref.ensures),
  ),
)

pub returns-after-loop-part : goal.returns-after-loop-part
returns-after-loop-part t c = λ sets position.
    sym (ap (λ x. row_bit c.loop-part.row position || x)
    (sequence_done (λ tree. begins tree c.loop-part.start position) (tree_of sets) c.deref-part-items.result.now c.loop-part.part-index c.loop-part-test.false)
    ∙ or-false (row_bit c.loop-part.row position))
    ∙ c.loop-part.invariant.bits sets position

pub returns-after-loop-part-2 : goal.returns-after-loop-part-2
returns-after-loop-part-2 t c = λ sets position.
    sym (ap (λ x. row_bit c.loop-part-2.row position || x)
    (choice_done (λ tree. begins tree c.loop-part-2.start position) (tree_of sets) c.deref-part-items-in-Alt.result.now c.loop-part-2.part-index
    c.loop-part-2-test.false)
    ∙ or-false (row_bit c.loop-part-2.row position))
    ∙ c.loop-part-2.invariant.bits sets position

pub returns-in-Rep : goal.returns-in-Rep
returns-in-Rep t c = λ sets position.
    c.add_firsts-in-Rep.ensures sets position
    ∙ ap (λ tree. row_bit c.args.row.now position || begins (tree_of sets tree) c.args.first position) c.deref.ensures
    ∙ ap (λ x. row_bit c.args.row.now position || x)
    (sym (ap (λ tree. begins (tree_of sets tree) c.args.first position) c.in-Rep.is
    ∙ of_repeat (λ tree. begins tree c.args.first position) (λ repetition tree. refl) sets c.in-Rep.field-0 c.in-Rep.part))
