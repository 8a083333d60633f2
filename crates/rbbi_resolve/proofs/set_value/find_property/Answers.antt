use Rattle.std.proofs.Common.{◌≡◌, is_none, ◌∙◌, rules}
use Rattle.rbbi_resolve.specs.declared.fault.FaultKind.TheVariants as kinds
use Rattle.rbbi_resolve.specs.Faults.{noted, faults_where}
use Rattle.rbbi_resolve.specs.inner.Contexts.{files_of, context_of}
use Rattle.rbbi_resolve.proofs.Kept.{files_stay}
use Rattle.rbbi_resolve.proofs.Named.{known_classes, property_noted}
use Rattle.rbbi_resolve.proofs.set_value.find_property.Goals as goal

pub returns-clause-noted : goal.returns-clause-noted
returns-clause-noted c =
    let files = files_of c.args.context.now in
    let old = c.args.least.now in
    let found = c.in_ok-found.found in
    let first : c.note_where.new.least ≡ noted old (faults_where (is_none found) c.args.place kinds.UnknownProperty) = search rules in
    first
    ∙ property_noted (context_of c.args.context.now) files old c.args.place c.args.negated c.args.name.now c.args.word.now (is_none found)
    (files_stay files _ _) (known_classes files _ c.args.negated c.args.name.now c.args.word.now found c.in_ok-found.ensures)
