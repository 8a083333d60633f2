use Rattle.std.proofs.Common.{◌++◌, sym, subst}
use Rattle.rbbi_tree.specs.Values.{expr_tree, rest_tree}
use Rattle.rbbi_resolve.specs.inner.Contexts.{context_of, AddsRows}
use Rattle.rbbi_resolve.specs.inner.OwnLeaves.{leaves_of_expr, leaves_of_rest}
use Rattle.rbbi_resolve.proofs.Adding.{more_rows}
use Rattle.rbbi_resolve.specs.inner.RuleSums.{AreSumsOf}
use Rattle.rbbi_resolve.proofs.rule.check_rule.Goals as goal

pub returns-in_ok-rest_sum-in-Some-clause-counts : goal.returns-in_ok-rest_sum-in-Some-clause-counts
returns-in_ok-rest_sum-in-Some-clause-counts c =
    let k = context_of c.args.context.now in
    let sums = c.then.ensures _ _ _ _ _ _ c.in_ok-front_sum.ensures.counts c.in_ok-rest_sum-in-Some.ensures.counts in
    subst (λ o. AreSumsOf k (expr_tree c.args.front.now) (rest_tree o) c.then.result) (sym c.in-Some.is)
    (record { leaf_sum = sums.leaf_sum; height_sum = sums.height_sum })

pub returns-in_ok-rest_sum-in-Some-clause-rows : goal.returns-in_ok-rest_sum-in-Some-clause-rows
returns-in_ok-rest_sum-in-Some-clause-rows c =
    let context = c.args.context.now in
    let k = context_of context in
    subst (λ o. AddsRows context (leaves_of_expr k (expr_tree c.args.front.now) ++ leaves_of_rest k (rest_tree o)) c.args.leaves.now.rows.items
    c.check_expr-in-Some.new.leaves.rows.items) (sym c.in-Some.is)
    (more_rows context _ _ c.args.leaves.now.rows.items c.check_expr.new.leaves.rows.items c.check_expr-in-Some.new.leaves.rows.items
    c.in_ok-front_sum.ensures.rows c.in_ok-rest_sum-in-Some.ensures.rows)
