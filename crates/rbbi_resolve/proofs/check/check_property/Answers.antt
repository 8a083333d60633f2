use Rattle.std.proofs.Common.{◌≡◌, is_none, ap, ◌∙◌, rules}
use Rattle.rbbi_resolve.specs.declared.fault.FaultKind.TheVariants as kinds
use Rattle.rbbi_resolve.specs.Faults.{noted, faults_where}
use Rattle.rbbi_resolve.specs.inner.Contexts.{context_of, files_of}
use Rattle.rbbi_resolve.specs.SetValues.{value_of_property}
use Rattle.rbbi_resolve.proofs.Adding.{one_row, property_letter}
use Rattle.rbbi_resolve.proofs.Kept.{files_stay}
use Rattle.rbbi_resolve.proofs.Named.{property_outside, known_classes}
use Rattle.rbbi_resolve.proofs.check.check_property.Goals as goal

pub returns-clause-noted : goal.returns-clause-noted
returns-clause-noted c =
    let files = files_of c.args.context.now in
    let old = c.args.least.now in
    let set = c.in_ok-set.set in
    let first : c.note_where.new.least ≡ noted old (faults_where (is_none set) c.args.place kinds.UnknownProperty) = search rules in
    c.note_where-2.ensures ∙ ap (λ l. noted l (faults_where c.is_empty_set-is_empty.result c.args.place kinds.EmptySet)) first
    ∙ property_outside (context_of c.args.context.now) files old c.args.place c.args.negated c.args.name.now c.args.value.now (is_none set)
    c.is_empty_set-is_empty.result (files_stay files _ _)
    (known_classes files _ c.args.negated c.args.name.now c.args.value.now set c.in_ok-set.ensures)
    ((rw c.as_ref.ensures at (c.is_empty_set-is_empty.ensures files)) _ c.in_ok-set.ensures c.requires.covered)

pub returns-clause-rows : goal.returns-clause-rows
returns-clause-rows c =
    let context = c.args.context.now in
    let files = files_of context in
    one_row context (value_of_property files c.args.negated c.args.name.now c.args.value.now) c.in_ok-set.set c.args.leaves.now.rows.items
    c.add.new.self.rows.items c.in_ok-add.ensures
    (record {
      own = c.in_ok-set.ensures;
      respects = c.requires.covered;
      letter = property_letter files c.args.negated c.args.name.now c.args.value.now;
    })
