use Rattle.std.proofs.Common.{rules, ◌-◌, ◌||◌, List, [], sym, ap, ◌∙◌, refl, arith}
use Rattle.std.proofs.Math.Bool.{or-false}
use Rattle.rbbi_model.specs.Ranges.{Range}
use Rattle.rbbi_model.specs.Rules.{leaf_count}
use Rattle.rbbi_resolve.specs.RuleTrees.{tree_of}
use Rattle.rbbi_resolve.specs.declared.rules.Tree.TheViews.{the_lemmas}
use Rattle.rbbi_bits.specs.BitRows.{row_bit}
use Rattle.rbbi_positions.specs.inner.Trees.{ends}
use Rattle.rbbi_positions.proofs.Folds.{same_leaves, of_repeat, tree_of_leaf, tree_of_all}
use Rattle.rbbi_positions.proofs.Parts.{count_choice, count_up_to, ends_on, ends_end, choice_on, ends_of, choice_done, none_left}
use Rattle.rbbi_positions.proofs.lasts.+add_lasts.Goals as goal

pub insert-requires : goal.insert-requires
insert-requires t c =
    omega (arith, c.requires.within [], ap (λ tree. leaf_count (tree_of [] tree)) c.in-Leaf.is, ap leaf_count (tree_of_leaf [] c.in-Leaf.field-0))

pub overflow_add-start : goal.overflow_add-start
overflow_add-start t c = omega (arith, c.requires.within [], c.requires.short, c.count.ensures [])

pub loop-i-init : goal.loop-i-init
loop-i-init t c =
    let same = λ (sets : List (List Range)). tree_of_all sets c.args.tree.now c.in-Seq.parts c.len-i.result c.in-Seq.is
    (omega (arith, c.len-i.ensures, c.in-Seq.parts.items.ok.0)) in
    record {
      within = omega (arith, c.len-i.ensures, c.in-Seq.parts.items.ok.0);
      at = λ sets. omega (arith, c.count.ensures sets, ap leaf_count (same sets));
      fits = λ sets. omega (arith, ap leaf_count (same sets));
      bits = λ sets position. ap (λ tree. row_bit c.args.row.now position || ends tree c.args.first position) (sym (same sets));
    }

pub count-start-requires : goal.count-start-requires
count-start-requires t c =
    λ sets. let next = count_up_to (tree_of sets) c.in-Seq.parts.items.items _ _ c.loop-i-test.true c.loop-i.invariant.within c.index-part.ensures in
    omega (arith, c.requires.within sets, c.requires.short, c.loop-i.invariant.fits sets, next)

pub overflow_sub-start : goal.overflow_sub-start
overflow_sub-start t c =
    let next = count_up_to (tree_of []) c.in-Seq.parts.items.items _ _ c.loop-i-test.true c.loop-i.invariant.within c.index-part.ensures in
    omega (arith, c.count-start.ensures [], c.loop-i.invariant.at [], next)

pub add_lasts-requires : goal.add_lasts-requires
add_lasts-requires t c = (
  search (rules, the_lemmas),
  (
    omega (arith, c.requires.short),
    λ sets. let next = count_up_to (tree_of sets) c.in-Seq.parts.items.items _ _ c.loop-i-test.true c.loop-i.invariant.within c.index-part.ensures in
        omega (arith, c.requires.within sets, c.count-start.ensures sets, c.loop-i.invariant.at sets, c.loop-i.invariant.fits sets, next),
  ),
)

pub returns-then-not-is_empty : goal.returns-then-not-is_empty
returns-then-not-is_empty t c = λ sets position.
    ends_end (tree_of sets) c.in-Seq.parts.items.items _ _ c.loop-i-test.true c.loop-i.invariant.within c.index-part.ensures
    c.args.first (c.loop-i.start - c.count-start.result) position (row_bit c.loop-i.row position) (row_bit c.add_lasts.new.row position)
    (let next = count_up_to (tree_of sets) c.in-Seq.parts.items.items _ _ c.loop-i-test.true c.loop-i.invariant.within c.index-part.ensures in
    omega (arith, c.count-start.ensures sets, c.loop-i.invariant.at sets, next))
    (sym (c.is_empty.ensures sets) ∙ c.if-not-is_empty.true) (c.add_lasts.ensures sets position) ∙ c.loop-i.invariant.bits sets position

pub loop-i-preserved : goal.loop-i-preserved
loop-i-preserved t c = record {
  within = omega (arith, c.loop-i.invariant.within);
  at = λ sets. let next = count_up_to (tree_of sets) c.in-Seq.parts.items.items _ _ c.loop-i-test.true c.loop-i.invariant.within c.index-part.ensures in
      omega (arith, c.count-start.ensures sets, c.loop-i.invariant.at sets, next);
  fits = λ sets. let next = count_up_to (tree_of sets) c.in-Seq.parts.items.items _ _ c.loop-i-test.true c.loop-i.invariant.within c.index-part.ensures in
      omega (arith, c.loop-i.invariant.fits sets, next);
  bits = λ sets position.
      ends_on (tree_of sets) c.in-Seq.parts.items.items _ _ c.loop-i-test.true c.loop-i.invariant.within c.index-part.ensures
      c.args.first (c.loop-i.start - c.count-start.result) position (row_bit c.loop-i.row position) (row_bit c.add_lasts.new.row position)
      (let next = count_up_to (tree_of sets) c.in-Seq.parts.items.items _ _ c.loop-i-test.true c.loop-i.invariant.within c.index-part.ensures in
      omega (arith, c.count-start.ensures sets, c.loop-i.invariant.at sets, next))
      (sym (c.is_empty.ensures sets) ∙ c.if-not-is_empty.false) (c.add_lasts.ensures sets position) ∙ c.loop-i.invariant.bits sets position;
}

pub add_lasts-requires-in-loop-part : goal.add_lasts-requires-in-loop-part
add_lasts-requires-in-loop-part t c = (
  search (rules, the_lemmas),
  (
    omega (arith, c.requires.short),
    λ sets. omega (arith, c.requires.within sets, c.loop-part.invariant.fits sets, count_choice (tree_of sets) _ _ _ c.loop-part-test.true c.part-item.is),
  ),
)

pub count-start-requires-in-loop-part : goal.count-start-requires-in-loop-part
count-start-requires-in-loop-part t c =
    λ sets. omega (arith, c.requires.within sets, c.loop-part.invariant.fits sets, count_choice (tree_of sets) _ _ _ c.loop-part-test.true c.part-item.is)

pub overflow_add-start-in-loop-part : goal.overflow_add-start-in-loop-part
overflow_add-start-in-loop-part t c =
    let next = count_choice (tree_of []) _ _ _ c.loop-part-test.true c.part-item.is in
    omega (arith, c.requires.within [], c.requires.short, c.loop-part.invariant.fits [], c.count-start-in-loop-part.ensures [], next)

pub loop-part-preserved : goal.loop-part-preserved
loop-part-preserved t c = record {
  fits = λ sets. let next = count_choice (tree_of sets) _ _ _ c.loop-part-test.true c.part-item.is in
      omega (arith, c.loop-part.invariant.fits sets, c.count-start-in-loop-part.ensures sets, next);
  bits = λ sets position.
      choice_on (tree_of sets) _ _ _ c.loop-part-test.true c.part-item.is
      (λ tree first. ends tree first position) (ends_of position) c.loop-part.start c.count-start-in-loop-part.result
      (row_bit c.loop-part.row position) (row_bit c.add_lasts-in-loop-part.new.row position) (c.count-start-in-loop-part.ensures sets)
      (c.add_lasts-in-loop-part.ensures sets position)
      ∙ c.loop-part.invariant.bits sets position;
}

pub add_lasts-requires-in-Rep : goal.add_lasts-requires-in-Rep
add_lasts-requires-in-Rep t c = (
  search (rules, the_lemmas),
  (
    omega (arith, c.requires.short),
    λ sets. omega (arith, c.requires.within sets, same_leaves sets _ _ _ _ c.in-Rep.is c.deref.ensures),
  ),
)

pub returns-after-loop-i : goal.returns-after-loop-i
returns-after-loop-i t c = λ sets position.
    sym (ap (λ x. row_bit c.loop-i.row position || x)
    (none_left (λ tree. ends tree c.args.first position) (tree_of sets) c.in-Seq.parts.items.items c.loop-i.i c.loop-i-test.false)
    ∙ or-false (row_bit c.loop-i.row position))
    ∙ c.loop-i.invariant.bits sets position

pub returns-after-loop-part : goal.returns-after-loop-part
returns-after-loop-part t c = λ sets position.
    sym (ap (λ x. row_bit c.loop-part.row position || x)
    (choice_done (λ tree. ends tree c.loop-part.start position) (tree_of sets) c.deref-part-items.result.now c.loop-part.part-index c.loop-part-test.false)
    ∙ or-false (row_bit c.loop-part.row position))
    ∙ c.loop-part.invariant.bits sets position

pub returns-in-Rep : goal.returns-in-Rep
returns-in-Rep t c = λ sets position.
    c.add_lasts-in-Rep.ensures sets position
    ∙ ap (λ tree. row_bit c.args.row.now position || ends (tree_of sets tree) c.args.first position) c.deref.ensures
    ∙ ap (λ x. row_bit c.args.row.now position || x)
    (sym (ap (λ tree. ends (tree_of sets tree) c.args.first position) c.in-Rep.is
    ∙ of_repeat (λ tree. ends tree c.args.first position) (λ repetition tree. refl) sets c.in-Rep.field-0 c.in-Rep.part))
