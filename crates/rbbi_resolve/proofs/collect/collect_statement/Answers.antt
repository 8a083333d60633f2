use Rattle.std.proofs.Common.{sym, subst}
use Rattle.rbbi_tree.specs.Trees.{rule}
use Rattle.rbbi_tree.specs.Values.{expr_tree, rest_tree, statement_tree}
use Rattle.rbbi_resolve.specs.Parts.{parts_of_expr}
use Rattle.rbbi_resolve.specs.inner.Covered.{Collects, parts_of_statement}
use Rattle.rbbi_resolve.proofs.Collecting.{collects_more}
use Rattle.rbbi_resolve.proofs.collect.collect_statement.Goals as goal

pub returns-in_ok-collect_expr-in-Rule-2 : goal.returns-in_ok-collect_expr-in-Rule-2
returns-in_ok-collect_expr-in-Rule-2 c =
    let files = c.args.table.now in
    let before = c.args.collection.now in
    let after = c.collect_expr-in-Some.new.collection in
    let r = c.in-Rule in
    let front = parts_of_expr (expr_tree r.front) in
    let rest = parts_of_expr (expr_tree c.in-Some.rest) in
    let both = collects_more files before c.collect_expr-in-Rule.new.collection after front rest c.in_ok-collect_expr-in-Rule.ensures
    c.in_ok-collect_expr-in-Rule-2.ensures in
    let there = subst (λ o. Collects files before after (parts_of_statement (rule r.place r.no_chain_in (expr_tree r.front) r.slash (rest_tree o) r.tag)))
    (sym c.in-Some.is) both in
    subst (λ s. Collects files before after (parts_of_statement (statement_tree s))) (sym r.is) there
