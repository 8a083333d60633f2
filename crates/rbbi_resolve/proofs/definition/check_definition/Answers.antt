use Rattle.std.proofs.Common.{◌≡◌, ◌++◌, [], sym, ap, ◌∙◌, subst, arith}
use Rattle.rbbi_resolve.specs.declared.variables.Kind.TheVariants as kind
use Rattle.std.proofs.lemmas.List.{append-nil}
use Rattle.rbbi_tree.specs.Values.{expr_tree, atom_tree, statement_trees}
use Rattle.rbbi_resolve.specs.Expressions.{meaning_of_expr, height_of_expr, set_of_expr, variable_with}
use Rattle.rbbi_resolve.specs.inner.Contexts.{IsAssigned, IsKindOf, bounds_of, context_of, files_of, AddsRows}
use Rattle.rbbi_resolve.specs.inner.OwnLeaves.{leaves_of_expr, leaves_of_atom}
use Rattle.rbbi_resolve.proofs.definition.check_definition.Goals as goal

pub kind_of_atom-requires-clause-rows : goal.kind_of_atom-requires-clause-rows
kind_of_atom-requires-clause-rows c =
    let context = c.args.context.now in
    let k = context_of context in
    let own = leaves_of_atom k (atom_tree c.in-Some.item.now.atom) in
    let leaves : leaves_of_expr k (expr_tree c.args.expr.now) ≡ own =
    ap (leaves_of_expr k) c.in-Some.ensures.lone ∙ append-nil (own ++ []) ∙ append-nil own in
    let old = c.args.leaves.now.rows.items in (
      old,
      omega (arith, c.len-first.ensures, c.args.leaves.now.rows.ok.0),
      subst
          (λ values. AddsRows context values old c.check_expr.new.leaves.rows.items) leaves c.in_ok-summary.ensures.rows,
    )

pub kind_of_atom-requires-clause-assigned : goal.kind_of_atom-requires-clause-assigned
kind_of_atom-requires-clause-assigned c =
    let context = c.args.context.now in
    (_, subst (IsAssigned (statement_trees context.statements.now) context.limit) c.in-Some.ensures.lone c.requires.assigned)

pub returns-in_ok-kind_of_atom-in-Some-clause-kind : goal.returns-in_ok-kind_of_atom-in-Some-clause-kind
returns-in_ok-kind_of_atom-in-Some-clause-kind c =
    let context = c.args.context.now in
    let k = context_of context in
    let e = expr_tree c.args.expr.now in
    let m = meaning_of_expr k e in
    let h = height_of_expr k e in
    let own = c.in_ok-kind_of_atom-in-Some.ensures m h c.in_ok-summary.ensures.counts in
    subst (λ o. IsKindOf (files_of context) (bounds_of context) (statement_trees context.statements.now) c.in_ok-kind_of_atom-in-Some.field-0 (variable_with o m h))
    (sym (ap (set_of_expr k) c.in-Some.ensures.lone)) own

pub returns-in-None-clause-kind : goal.returns-in-None-clause-kind
returns-in-None-clause-kind c =
    let context = c.args.context.now in
    let k = context_of context in
    let e = expr_tree c.args.expr.now in
    subst (λ o. IsKindOf (files_of context) (bounds_of context) (statement_trees context.statements.now) (kind.Expression c.in_ok-summary.summary)
    (variable_with o (meaning_of_expr k e) (height_of_expr k e)))
    (sym (c.in-None.ensures.none k)) c.in_ok-summary.ensures.counts
