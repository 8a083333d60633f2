use Rattle.std.proofs.Common.{◌≤◌, ◌↔◌, ◌+◌, ℕ, List, ap, sym, length, refl, subst, arith}
use Rattle.rbbi_classes.specs.Classes.{IsFirstOfClass, HasMember}
use Rattle.rbbi_cats.proofs.Joining.{bounds_few, joined_none, joined_more, told_many}
use Rattle.rbbi_cats.proofs.classes.categories_of.Goals as goal

pub overflow_add-last_class : goal.overflow_add-last_class
overflow_add-last_class c =
    omega (
      arith,
      c.last_class.ensures,
      ap length c.layout-layout.ensures.value,
      bounds_few 0 c.args.division.now.bounds (omega arith) c.layout-layout.ensures.form.bounds,
    )

pub loop-row-init : goal.loop-row-init
loop-row-init c =
    joined_none c.args.division.now c.args.rows.now c.in_ok-categories.categories.items (c.last_class.result + 1)
    (c.in_ok-categories.ensures.items_if_clones_equal (λ y same. same))
    (omega (arith, c.last_class.ensures, ap length c.layout-layout.ensures.value))

pub without-requires-clause-surrogates : goal.without-requires-clause-surrogates
without-requires-clause-surrogates c =
    subst (λ (bounds : List ℕ). (at : ℕ) → IsFirstOfClass bounds at → HasMember bounds c.in_ok-surrogates.surrogates at ↔ ((0xD800 ≤ at) × (at ≤ 0xDFFF)))
    c.layout-layout.ensures.value c.in_ok-surrogates.ensures

pub loop-row-preserved : goal.loop-row-preserved
loop-row-preserved c =
    joined_more c.args.division.now c.layout-layout.ensures.form c.args.rows.now c.loop-row.row-index c.row-item.result c.in_ok-characters.characters
    c.loop-row-test.true (sym c.row-item.is) c.loop-row.categories.items c.refine.new.categories c.loop-row.count c.in_ok-count.count c.loop-row.invariant
    c.in_ok-characters.ensures c.in_ok-count.ensures.numbered (rw c.deref_mut.ensures.value at c.in_ok-count.ensures.refines) _
    c.loop-row.categories.len c.loop-row.categories.ok.0 refl
    (omega (arith, c.if-count-gt-MOST_CATEGORIES.false))

pub returns-then-count-gt-MOST_CATEGORIES-clause-too_many : goal.returns-then-count-gt-MOST_CATEGORIES-clause-too_many
returns-then-count-gt-MOST_CATEGORIES-clause-too_many c = λ same.
    told_many c.args.division.now c.layout-layout.ensures.form c.args.rows.now c.loop-row.row-index c.row-item.result c.in_ok-characters.characters
    c.loop-row-test.true (sym c.row-item.is) c.loop-row.categories.items c.refine.new.categories c.loop-row.count c.in_ok-count.count c.loop-row.invariant
    c.in_ok-characters.ensures c.in_ok-count.ensures.numbered (rw c.deref_mut.ensures.value at c.in_ok-count.ensures.refines)
    (omega (arith, c.if-count-gt-MOST_CATEGORIES.true))
