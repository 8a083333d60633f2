use Rattle.std.proofs.Common.{◌≡◌, ◌+◌, refl, ap, subst, sym, arith}
use Rattle.rbbi_dfa.specs.inner.Determinizing.{AddsZeros}
use Rattle.rbbi_dfa.specs.inner.PositionRows.{PositionRows}
use Rattle.rbbi_dfa.proofs.Cells.{no_zeros, zeros_more}
use Rattle.rbbi_dfa.proofs.determinize.lead_nowhere.Goals as goal

pub loop-category-init : goal.loop-category-init
loop-category-init c = no_zeros c.args.cells.now.items

pub loop-category-preserved : goal.loop-category-preserved
loop-category-preserved c =
    subst (λ l. AddsZeros c.args.cells.now.items l (c.loop-category._category + 1)) (sym c.in_ok-push.ensures.items)
    (zeros_more c.args.cells.now.items c.loop-category.cells.items c.loop-category._category 0 refl c.loop-category.invariant)

pub returns : goal.returns
returns c =
    let same : c.loop-category._category ≡ c.args.rows.now.categories =
    omega (arith, c.loop-category-test.false, ap (λ (r : PositionRows). r.categories) c.rows.view_is) in
    subst (AddsZeros c.args.cells.now.items c.loop-category.cells.items) same c.loop-category.invariant
