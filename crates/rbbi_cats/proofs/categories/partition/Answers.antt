use Rattle.std.proofs.Common.{◌≡◌, List, Err, sym, ap, ◌∙◌, subst}
use Rattle.std.proofs.lemmas.Result.{err_from_is_err_and}
use Rattle.rbbi_model.proofs.Categories.{category_within}
use Rattle.rbbi_model.specs.Ranges.{Range}
use Rattle.rbbi_resolve.specs.RuleLists.{rules_of}
use Rattle.rbbi_cats.specs.declared.error.CatsErr.TheVariants.{TooManyCategories}
use Rattle.rbbi_cats.specs.inner.Categories.{AreCategories, HasTold}
use Rattle.rbbi_cats.proofs.Finding.{has_classes, few, are_classes, are_valid}
use Rattle.rbbi_cats.proofs.categories.partition.Goals as goal

pub returns-in_err-categories-clause-too_many : goal.returns-in_err-categories-clause-too_many
returns-in_err-categories-clause-too_many c =
    let p = err_from_is_err_and c.from_residual.result c.from_residual.ensures.1 in
    λ same.
    let error : c.in_err-categories.field-0.0 ≡ TooManyCategories = sym p.2 ∙ cc (p.1, same) in
    has_classes c.args.rules.now 1000 c.sets.ensures.form
    (subst (λ (sets : List (List Range)). HasTold sets 1000) (sym (sym c.sets.ensures.value ∙ c.by_classes.ensures.same))
    (c.in_err-categories.ensures.too_many (ap (λ e. Err e) error)))

pub invariant_of-result : goal.invariant_of-result
invariant_of-result c =
    let told = subst (λ (sets : List (List Range)). AreCategories c.by_classes.result.0.now.steps sets c.in_ok-categories.categories.items)
    (sym (sym c.sets.ensures.value ∙ c.by_classes.ensures.same)) c.in_ok-categories.ensures.told in
    let are = rw (c.steps.ensures, c.deref.ensures.value) at c.in_ok-ranges.ensures in (
      are_valid c.sets.ensures.form c.by_classes.ensures.form c.in_ok-categories.ensures.many told c.in_ok-categories.ensures.numbered are
          c.in_ok-categories.ensures.few,
      rw c.deref-2.ensures.value at c.in_ok-blocks.ensures,
    )

pub returns : goal.returns
returns c =
    let told = subst (λ (sets : List (List Range)). AreCategories c.by_classes.result.0.now.steps sets c.in_ok-categories.categories.items)
    (sym (sym c.sets.ensures.value ∙ c.by_classes.ensures.same)) c.in_ok-categories.ensures.told in
    let are = rw (c.steps.ensures, c.deref.ensures.value) at c.in_ok-ranges.ensures in
    let list = c.args.rules.now in
    let count = c.in_ok-categories.count in
    let ranges = c.in_ok-ranges.ranges.items in
    let numbered = c.in_ok-categories.ensures.numbered in
    let classes = are_classes c.sets.ensures.form c.by_classes.ensures.form c.in_ok-categories.ensures.many told numbered are in
    let valid = are_valid c.sets.ensures.form c.by_classes.ensures.form c.in_ok-categories.ensures.many told numbered are c.in_ok-categories.ensures.few in
    record {
      classes = classes;
      form = valid;
      few = λ h. few (rules_of list) count ranges classes (λ n code. category_within count ranges n valid) 1000 c.in_ok-categories.ensures.few h;
      too_many = λ same. absurd (cc);
    }
