use Rattle.std.proofs.Common.{◌++◌, [], sym, ap, subst, rules}
use Rattle.rbbi_tree.specs.Values.{statement_trees}
use Rattle.rbbi_resolve.specs.Expressions.{variable_with}
use Rattle.rbbi_resolve.specs.declared.variables.Kind.TheVariants as kind
use Rattle.rbbi_resolve.specs.inner.ClassValues.{IsClassValue}
use Rattle.rbbi_resolve.specs.inner.Contexts.{IsKindOf, bounds_of, context_of, files_of, AddsRows}
use Rattle.rbbi_resolve.proofs.LeafAtoms.{set_atom, own_row}
use Rattle.rbbi_resolve.proofs.definition.kind_of_atom.Goals as goal

pub returns-in_ok-value-in-Prop : goal.returns-in_ok-value-in-Prop
returns-in_ok-value-in-Prop c = λ meaning height sums.
    let context = c.args.context.now in
    let rows = c.args.leaves.now.rows.items in
    let s = set_atom (context_of context) c.args.atom.now c.in-Prop.is in
    let before = c.requires.rows in
    let own = own_row context s.0 before.0 rows c.args.first c.index.result.now before.1
    (subst (λ values. AddsRows context values before.0 rows) s.1 before.2) c.index.ensures in
    let assigned = c.requires.assigned in
    subst (λ o. IsKindOf (files_of context) (bounds_of context) (statement_trees context.statements.now)
    (kind.Set c.in_ok-value-in-Prop.value context.limit) (variable_with o meaning height)) (sym s.2) (
      subst (IsClassValue (files_of context) (bounds_of context) s.0) (sym (search rules)) own,
      record { expr = _; assigned = assigned.1; leaf = ap (λ own. (own ++ []) ++ []) s.1 },
    )
