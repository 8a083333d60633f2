use Rattle.std.proofs.Common.{ap, ◌∙◌}
use Rattle.rbbi_tree.specs.Values.{set_tree}
use Rattle.rbbi_resolve.specs.declared.fault.FaultKind.TheVariants as kinds
use Rattle.rbbi_resolve.specs.Faults.{noted, faults_where}
use Rattle.rbbi_resolve.specs.Contexts.{value_of_name}
use Rattle.rbbi_resolve.specs.SetValues.{value_of_set}
use Rattle.rbbi_resolve.specs.inner.Contexts.{context_of, files_of}
use Rattle.rbbi_resolve.proofs.Adding.{one_row, set_letter}
use Rattle.rbbi_resolve.proofs.Kept.{files_stay}
use Rattle.rbbi_resolve.proofs.Named.{set_noted}
use Rattle.rbbi_resolve.proofs.check.check_set.Goals as goal

pub returns-clause-noted : goal.returns-clause-noted
returns-clause-noted c =
    c.note_where.ensures ∙ ap (λ l. noted l (faults_where c.is_empty_set-is_empty.result c.args.place kinds.EmptySet)) c.in_ok-find_set.ensures.noted
    ∙ set_noted (context_of c.args.context.now) (files_of c.args.context.now) c.args.least.now c.args.place (set_tree c.args.set.now)
    c.is_empty_set-is_empty.result (files_stay (files_of c.args.context.now) _ _)
    ((rw c.as_ref.ensures at (c.is_empty_set-is_empty.ensures (files_of c.args.context.now))) _ c.in_ok-find_set.ensures.value
    (c.requires.covered (value_of_name (context_of c.args.context.now)) c.requires.context.respects))

pub returns-clause-rows : goal.returns-clause-rows
returns-clause-rows c =
    let context = c.args.context.now in
    let files = files_of context in
    let named = value_of_name (context_of context) in
    let s = set_tree c.args.set.now in
    one_row context (value_of_set files named s) c.find_set.new.value c.args.leaves.now.rows.items c.add.new.self.rows.items c.in_ok-add.ensures
    (record { own = c.in_ok-find_set.ensures.value; respects = c.requires.covered named c.requires.context.respects; letter = set_letter files named s })
