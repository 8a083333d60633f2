use Rattle.std.proofs.Common.{◌≡◌, ◌<◌, ℕ, refl, sym, ◌∙◌, arith}
use Rattle.std.proofs.lemmas.Bool.{false≢true}
use Rattle.rbbi_model.specs.Tables.{step}
use borrow.Author.Count.{below_none, below_more}
use Rattle.rbbi_segment.proofs.line_ends.leads_to_zero.Goals as goal

pub loop-category-init : goal.loop-category-init
loop-category-init c = below_none (λ k. step c.args.table.now c.args.row k ≡ 0)

pub loop-category-preserved : goal.loop-category-preserved
loop-category-preserved c =
    below_more (λ k. step c.args.table.now c.args.row k ≡ 0) c.loop-category.category c.loop-category.invariant
    (sym c.step.ensures ∙ omega arith)

pub returns-then-step-ne0 : goal.returns-then-step-ne0
returns-then-step-ne0 c = (λ is. absurd (false≢true is), λ all. absurd (let none = all c.loop-category.category (omega arith) in omega (arith, none, c.step.ensures)))

pub returns : goal.returns
returns c = (λ _ k less. c.loop-category.invariant k (omega (arith, less)), λ _. refl)
