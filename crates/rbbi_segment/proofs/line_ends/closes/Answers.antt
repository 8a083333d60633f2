use Rattle.std.proofs.Common.{◌≡◌, ◌<◌, ℕ, refl, sym, ◌∙◌, subst, arith}
use Rattle.std.proofs.lemmas.Bool.{false≢true}
use Rattle.rbbi_model.specs.Tables.{step}
use Rattle.rbbi_model.specs.ValidTables.{LeadsToZero}
use borrow.Author.Count.{below_none, below_more}
use Rattle.rbbi_segment.proofs.line_ends.closes.Goals as goal

pub loop-row-init : goal.loop-row-init
loop-row-init c = below_none (λ k. LeadsToZero c.args.table.now (step c.args.table.now k c.category-category.result))

pub leads_to_zero-requires : goal.leads_to_zero-requires
leads_to_zero-requires c =
    let next = (c.valid.ensures.rows.each c.loop-row.row (omega arith)).next c.category-category.result c.category-category.ensures.within in
    omega (arith, next, c.step.ensures)

pub loop-row-preserved : goal.loop-row-preserved
loop-row-preserved c =
    below_more (λ k. LeadsToZero c.args.table.now (step c.args.table.now k c.category-category.result)) c.loop-row.row c.loop-row.invariant
    (subst (LeadsToZero c.args.table.now) c.step.ensures (c.leads_to_zero.ensures.0 c.if-not-leads_to_zero.false))

pub returns-then-not-leads_to_zero : goal.returns-then-not-leads_to_zero
returns-then-not-leads_to_zero c = (
  λ is. absurd (false≢true is),
  λ all. absurd (false≢true (sym c.if-not-leads_to_zero.true ∙ c.leads_to_zero.ensures.1 (subst (LeadsToZero c.args.table.now)
      (sym c.step.ensures) (subst (λ k. LeadsToZero c.args.table.now (step c.args.table.now c.loop-row.row k)) (sym c.category-category.ensures.value)
      (all c.loop-row.row (omega arith)))))),
)

pub returns : goal.returns
returns c = (
  λ _ row less. subst (λ k. LeadsToZero c.args.table.now (step c.args.table.now row k)) c.category-category.ensures.value
      (c.loop-row.invariant row (omega (arith, less))),
  λ _. refl,
)
