use Rattle.std.proofs.Common.{rules, ◌≡◌, ◌≤◌, ◌<◌, ◌-◌, ℕ, ◌+◌, ◌*◌, ◌||◌, Bool, List, [], take, length, sym, ap, ◌∙◌, subst, arith}
use Rattle.std.proofs.Math.Bool.{or-false}
use Rattle.std.specs.Vec.{with_items}
use Rattle.std.specs.Prelude.{map}
use Rattle.rbbi_model.specs.Ranges.{Range}
use Rattle.rbbi_model.specs.Spelling.{Tree, sequence_of}
use Rattle.rbbi_model.specs.Rules.{leaf_count}
use Rattle.rbbi_resolve.specs.RuleTrees.{tree_of}
use Rattle.rbbi_resolve.specs.declared.rules.Tree.TheViews.{the_lemmas}
use Rattle.rbbi_bits.specs.BitRows.{row_bit}
use Rattle.rbbi_positions.specs.inner.Rows.{in_row}
use Rattle.rbbi_positions.specs.inner.Trees.{goes, leads}
use Rattle.rbbi_positions.specs.inner.Rounds.{behind_of}
use Rattle.rbbi_positions.proofs.Folds.{same_leaves, tree_of_leaf, tree_of_all, tree_of_repeat, goes_repeat}
use Rattle.rbbi_positions.proofs.Parts.{count_choice, count_up_to, goes_on, choice_on, goes_of, choice_done, none_left}
use Rattle.rbbi_positions.proofs.RowWrites.{all_written, row_within, rows_within}
use Rattle.rbbi_positions.proofs.followers.+add_followers.Goals as goal

pub unite_row-requires : goal.unite_row-requires
unite_row-requires t c =
    let one = ap (λ tree. leaf_count (tree_of [] tree)) c.in-Leaf.is ∙ ap leaf_count (tree_of_leaf [] c.in-Leaf.field-0) in
    row_within c.args.first (c.args.first + leaf_count (tree_of [] c.args.tree.now)) (length c.args.next.now) (length c.args.followers.now) (omega (arith, one))
    (c.requires.rows [])

pub overflow_add-start : goal.overflow_add-start
overflow_add-start t c = omega (arith, c.requires.within [], c.requires.short, c.count.ensures [])

pub loop-i-init : goal.loop-i-init
loop-i-init t c =
    let copied = c.in_ok-row-in-Seq.ensures.items_if_clones_equal (λ x y e. e) in
    let same = λ (sets : List (List Range)). tree_of_all sets c.args.tree.now c.in-Seq.parts c.len-i.result c.in-Seq.is
    (omega (arith, c.len-i.ensures, c.in-Seq.parts.items.ok.0)) in
    record {
      many = ap length copied;
      within = omega (arith, c.len-i.ensures, c.in-Seq.parts.items.ok.0);
      at = λ sets. omega (arith, c.count.ensures sets, ap leaf_count (same sets));
      fits = λ sets. omega (arith, ap leaf_count (same sets));
      rows = λ sets position other below.
          ap (λ row. in_row (length c.args.next.now) c.args.followers.now position other
          || goes (sequence_of (map (tree_of sets) (take c.len-i.result c.in-Seq.parts.items.items))) c.args.first position other (row_bit row other)) copied
          ∙ ap (λ tree. in_row (length c.args.next.now) c.args.followers.now position other || goes tree c.args.first position other
          (row_bit c.args.next.now other)) (sym (same sets));
    }

pub count-start-requires : goal.count-start-requires
count-start-requires t c =
    λ sets. let next = count_up_to (tree_of sets) c.in-Seq.parts.items.items _ _ c.loop-i-test.true c.loop-i.invariant.within c.index-part.ensures in
    omega (arith, c.requires.within sets, c.requires.short, c.loop-i.invariant.fits sets, next)

pub overflow_sub-start : goal.overflow_sub-start
overflow_sub-start t c =
    let next = count_up_to (tree_of []) c.in-Seq.parts.items.items _ _ c.loop-i-test.true c.loop-i.invariant.within c.index-part.ensures in
    omega (arith, c.count-start.ensures [], c.loop-i.invariant.at [], next)

pub add_followers-requires : goal.add_followers-requires
add_followers-requires t c =
    let wide : length c.deref.result.now ≡ length c.args.next.now = ap length c.deref.ensures.value ∙ c.loop-i.invariant.many in
    let ends = λ (sets : List (List Range)).
    let here : (c.loop-i.start - c.count-start.result) + leaf_count (tree_of sets c.index-part.result.now) ≤ c.args.first + leaf_count
    (tree_of sets c.args.tree.now) =
    let next = count_up_to (tree_of sets) c.in-Seq.parts.items.items _ _ c.loop-i-test.true c.loop-i.invariant.within c.index-part.ensures in
    omega (arith, c.count-start.ensures sets, c.loop-i.invariant.at sets, c.loop-i.invariant.fits sets, next) in
    here in (
      search (rules, the_lemmas),
      (
        omega (arith, wide, c.requires.short),
        (
          λ sets. omega (arith, wide, ends sets, c.requires.within sets),
          λ sets.
              let rows : (c.args.first + leaf_count (tree_of sets c.args.tree.now)) * length c.deref.result.now ≤ length c.loop-i.followers =
              subst (λ (n : ℕ). (c.args.first + leaf_count (tree_of sets c.args.tree.now)) * n ≤ length c.loop-i.followers) (sym wide)
              (omega (arith, c.requires.rows sets, c.loop-i.auto.followers)) in
              rows_within ((c.loop-i.start - c.count-start.result) + leaf_count (tree_of sets c.index-part.result.now))
              (c.args.first + leaf_count (tree_of sets c.args.tree.now)) (length c.deref.result.now) (length c.loop-i.followers) (ends sets) rows,
        ),
      ),
    )

pub lead-requires-clause-within : goal.lead-requires-clause-within
lead-requires-clause-within t c = λ sets. omega (
  arith,
  ap length c.deref_mut.ensures.value,
  c.loop-i.invariant.many,
  c.requires.within sets,
  c.count-start.ensures sets,
  c.loop-i.invariant.at sets,
  c.loop-i.invariant.fits sets,
  count_up_to (tree_of sets) c.in-Seq.parts.items.items _ _ c.loop-i-test.true c.loop-i.invariant.within c.index-part.ensures,
)

pub loop-i-preserved : goal.loop-i-preserved
loop-i-preserved t c =
    let wide : length c.deref.result.now ≡ length c.args.next.now = ap length c.deref.ensures.value ∙ c.loop-i.invariant.many in
    let written = all_written c.loop-i.row _ c.lead.new.row c.deref_mut.ensures.value c.lead.auto.row in
    let start : ℕ = c.loop-i.start - c.count-start.result in
    record {
      many = ap length written ∙ c.lead.auto.row ∙ ap length c.deref_mut.ensures.value ∙ c.loop-i.invariant.many;
      within = omega (arith, c.loop-i.invariant.within);
      at = λ sets. let next = count_up_to (tree_of sets) c.in-Seq.parts.items.items _ _ c.loop-i-test.true c.loop-i.invariant.within c.index-part.ensures in
          omega (arith, c.count-start.ensures sets, c.loop-i.invariant.at sets, next);
      fits = λ sets. let next = count_up_to (tree_of sets) c.in-Seq.parts.items.items _ _ c.loop-i-test.true c.loop-i.invariant.within c.index-part.ensures in
          omega (arith, c.loop-i.invariant.fits sets, next);
      rows = λ sets position other below.
          let part : Tree = tree_of sets c.index-part.result.now in
          let short : other < 64 * length c.deref.result.now = omega (arith, below, wide) in
          let new : in_row (length c.args.next.now) c.add_followers.new.followers position other
          ≡ (in_row (length c.args.next.now) c.loop-i.followers position other || goes part start position other (row_bit c.loop-i.row.items other)) =
          subst (λ (n : ℕ). in_row n c.add_followers.new.followers position
          other ≡ (in_row n c.loop-i.followers position other || goes part start position other (row_bit c.loop-i.row.items other))) wide
          (c.in_ok-add_followers-in-Seq.ensures sets position other short
          ∙ ap (λ row. in_row (length c.deref.result.now) c.loop-i.followers position other || goes part start position other (row_bit row other))
          c.deref.ensures.value) in
          goes_on (tree_of sets) c.in-Seq.parts.items.items _ _ c.loop-i-test.true c.loop-i.invariant.within c.index-part.ensures
          c.args.first start position other (row_bit c.loop-i.row.items other) (row_bit (with_items c.loop-i.row c.lead.new.row).items other)
          (in_row (length c.args.next.now) c.loop-i.followers position other) (in_row (length c.args.next.now) c.add_followers.new.followers position other)
          (let next = count_up_to (tree_of sets) c.in-Seq.parts.items.items _ _ c.loop-i-test.true c.loop-i.invariant.within c.index-part.ensures in
          omega (arith, c.count-start.ensures sets, c.loop-i.invariant.at sets, next))
          (ap (λ row. row_bit row other) written ∙ c.lead.ensures sets other ∙ ap (λ row. leads part start other (row_bit row other)) c.deref_mut.ensures.value)
          new ∙ c.loop-i.invariant.rows sets position other below;
    }

pub add_followers-requires-in-loop-part : goal.add_followers-requires-in-loop-part
add_followers-requires-in-loop-part t c = (
  search (rules, the_lemmas),
  (
    omega (arith, c.requires.short),
    (
      λ sets. omega (arith, c.requires.within sets, c.loop-part.invariant.fits sets, count_choice (tree_of sets) _ _ _ c.loop-part-test.true c.part-item.is),
      λ sets. rows_within (c.loop-part.start + leaf_count (tree_of sets c.part-item.result)) (c.args.first + leaf_count (tree_of sets c.args.tree.now))
          (length c.args.next.now) (length c.loop-part.followers)
          (let next = count_choice (tree_of sets) _ _ _ c.loop-part-test.true c.part-item.is in
          omega (arith, c.loop-part.invariant.fits sets, next)) (omega (arith, c.requires.rows sets, c.loop-part.auto.followers)),
    ),
  ),
)

pub count-start-requires-in-loop-part : goal.count-start-requires-in-loop-part
count-start-requires-in-loop-part t c =
    λ sets. omega (arith, c.requires.within sets, c.loop-part.invariant.fits sets, count_choice (tree_of sets) _ _ _ c.loop-part-test.true c.part-item.is)

pub overflow_add-start-in-loop-part : goal.overflow_add-start-in-loop-part
overflow_add-start-in-loop-part t c =
    let next = count_choice (tree_of []) _ _ _ c.loop-part-test.true c.part-item.is in
    omega (arith, c.requires.within [], c.requires.short, c.loop-part.invariant.fits [], c.count-start-in-loop-part.ensures [], next)

pub loop-part-preserved : goal.loop-part-preserved
loop-part-preserved t c = record {
  fits = λ sets. let next = count_choice (tree_of sets) _ _ _ c.loop-part-test.true c.part-item.is in
      omega (arith, c.loop-part.invariant.fits sets, c.count-start-in-loop-part.ensures sets, next);
  rows = λ sets position other below.
      choice_on (tree_of sets) _ _ _ c.loop-part-test.true c.part-item.is
      (λ tree first. goes tree first position other (row_bit c.args.next.now other)) (goes_of position other (row_bit c.args.next.now other)) c.loop-part.start
      c.count-start-in-loop-part.result
      (in_row (length c.args.next.now) c.loop-part.followers position other)
      (in_row (length c.args.next.now) c.add_followers-in-loop-part.new.followers position other)
      (c.count-start-in-loop-part.ensures sets) (c.in_ok-add_followers-in-Alt.ensures sets position other below)
      ∙ c.loop-part.invariant.rows sets position other below;
}

pub behind-requires-clause-within : goal.behind-requires-clause-within
behind-requires-clause-within t c =
    λ sets. omega (
      arith,
      c.requires.within sets,
      same_leaves sets c.args.tree.now c.in-Rep.quant c.in-Rep.part c.deref-in-Rep.result.now c.in-Rep.is
          c.deref-in-Rep.ensures,
    )

pub add_followers-requires-in-Rep : goal.add_followers-requires-in-Rep
add_followers-requires-in-Rep t c =
    let wide : length c.deref-in-Rep-3.result.now ≡ length c.args.next.now = ap length c.deref-in-Rep-3.ensures.value ∙ c.in_ok-row-in-Rep.ensures.many in
    let leaves = λ (sets : List (List Range)).
    same_leaves sets c.args.tree.now c.in-Rep.quant c.in-Rep.part c.deref-in-Rep-2.result.now c.in-Rep.is c.deref-in-Rep-2.ensures in (
      search (rules, the_lemmas),
      (
        omega (arith, wide, c.requires.short),
        (
          λ sets. omega (arith, wide, leaves sets, c.requires.within sets),
          λ sets.
              let rows : (c.args.first + leaf_count (tree_of sets c.args.tree.now)) * length c.deref-in-Rep-3.result.now ≤ length c.args.followers.now =
              subst (λ (n : ℕ). (c.args.first + leaf_count (tree_of sets c.args.tree.now)) * n ≤ length c.args.followers.now) (sym wide) (c.requires.rows sets)
              in
              rows_within (c.args.first + leaf_count (tree_of sets c.deref-in-Rep-2.result.now)) (c.args.first + leaf_count (tree_of sets c.args.tree.now))
              (length c.deref-in-Rep-3.result.now) (length c.args.followers.now)
              (omega (arith, leaves sets)) rows,
        ),
      ),
    )

pub returns-in-Leaf : goal.returns-in-Leaf
returns-in-Leaf t c = λ sets position other below.
    c.unite_row.ensures position other below
    ∙ ap (λ tree. in_row (length c.args.next.now) c.args.followers.now position other || goes tree c.args.first position other (row_bit c.args.next.now other))
    (sym (ap (tree_of sets) c.in-Leaf.is ∙ tree_of_leaf sets c.in-Leaf.field-0))

pub returns-after-loop-i : goal.returns-after-loop-i
returns-after-loop-i t c = λ sets position other below.
    let now : Bool = in_row (length c.args.next.now) c.loop-i.followers position other in
    sym (ap (λ x. now || x)
    (none_left (λ tree. goes tree c.args.first position other (row_bit c.loop-i.row.items other)) (tree_of sets) c.in-Seq.parts.items.items c.loop-i.i
    c.loop-i-test.false) ∙ or-false now)
    ∙ c.loop-i.invariant.rows sets position other below

pub returns-after-loop-part : goal.returns-after-loop-part
returns-after-loop-part t c = λ sets position other below.
    let now : Bool = in_row (length c.args.next.now) c.loop-part.followers position other in
    sym (ap (λ x. now || x)
    (choice_done (λ tree. goes tree c.loop-part.start position other (row_bit c.args.next.now other)) (tree_of sets) c.deref-part-items.result.now
    c.loop-part.part-index c.loop-part-test.false) ∙ or-false now)
    ∙ c.loop-part.invariant.rows sets position other below

pub returns-in_ok-add_followers-in-Rep : goal.returns-in_ok-add_followers-in-Rep
returns-in_ok-add_followers-in-Rep t c = λ sets position other below.
    let wide : length c.deref-in-Rep-3.result.now ≡ length c.args.next.now = ap length c.deref-in-Rep-3.ensures.value ∙ c.in_ok-row-in-Rep.ensures.many in
    let short : other < 64 * length c.deref-in-Rep-3.result.now = omega (arith, below, wide) in
    let given : Bool = row_bit c.args.next.now other in
    let part : Tree = tree_of sets c.in-Rep.part.value in
    let handed : row_bit c.deref-in-Rep-3.result.now other ≡ behind_of c.in-Rep.quant part c.args.first other given =
    ap (λ row. row_bit row other) c.deref-in-Rep-3.ensures.value ∙ c.in_ok-row-in-Rep.ensures.bits sets other
    ∙ ap (λ inner. behind_of c.in-Rep.quant (tree_of sets inner) c.args.first other given) c.deref-in-Rep.ensures in
    let inside : goes (tree_of sets c.deref-in-Rep-2.result.now) c.args.first position other (row_bit c.deref-in-Rep-3.result.now other) ≡ goes
    (tree_of sets c.args.tree.now) c.args.first position other given =
    ap (λ inner. goes (tree_of sets inner) c.args.first position other (row_bit c.deref-in-Rep-3.result.now other)) c.deref-in-Rep-2.ensures
    ∙ ap (goes part c.args.first position other) handed
    ∙ sym (ap (λ tree. goes (tree_of sets tree) c.args.first position other given) c.in-Rep.is
    ∙ ap (λ tree. goes tree c.args.first position other given) (tree_of_repeat sets c.in-Rep.quant c.in-Rep.part)
    ∙ goes_repeat c.in-Rep.quant part c.args.first position other given) in
    subst (λ (n : ℕ). in_row n c.add_followers-in-Rep.new.followers position
    other ≡ (in_row n c.args.followers.now position other || goes (tree_of sets c.args.tree.now) c.args.first position other given)) wide
    (c.in_ok-add_followers-in-Rep.ensures sets position other short
    ∙ ap (λ x. in_row (length c.deref-in-Rep-3.result.now) c.args.followers.now position other || x) inside)
