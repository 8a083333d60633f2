use Rattle.std.proofs.Common.{◌≡◌, [], ◌&&◌, not, encode_utf8_all, refl, sym, ap, ◌∙◌, subst}
use Rattle.std.specs.Rc.{rc_value}
use Rattle.rbbi_tree.specs.Trees.{control}
use Rattle.rbbi_tree.specs.Values.{statement_trees}
use Rattle.rbbi_resolve.specs.declared.fault.FaultKind.TheVariants as kinds
use Rattle.rbbi_resolve.specs.Files.{after_control, is_supported, is_unsupported}
use Rattle.rbbi_resolve.specs.inner.Files.{context_at}
use Rattle.rbbi_resolve.specs.Faults.{faults_where, noted}
use Rattle.rbbi_resolve.specs.inner.Switchings.{AreSwitches}
use Rattle.rbbi_resolve.proofs.Steps.{step, context_next, stay_variables, control_variables, note_two}
use Rattle.std.proofs.lemmas.List.{append-nil}
use Rattle.rbbi_resolve.proofs.LeafRows.{leaves_next}
use Rattle.rbbi_resolve.proofs.file.Reading.read_control.Goals as goal

pub returns : goal.returns
returns c =
    let r = c.args.self.now in
    let trees = statement_trees r.statements.now in
    let n = c.args.number in
    let begun = c.requires.leaves in
    let text = encode_utf8_all c.args.name.now in
    let k = context_at r.table.now trees n in
    let same = c.as_str-name.ensures.bytes in
    let next = ap (λ x. x.variables) (context_next r.table.now trees n (control c.args.name.now c.args.place) c.requires.at) ∙ control_variables k text in
    let unknown : c.is_unknown.result ≡ (not (is_supported text) && not (is_unsupported text)) =
    c.is_unknown.ensures ∙ ap (λ t. not (is_supported t) && not (is_unsupported t)) same in
    let unsupported : c.is_unsupported.result ≡ is_unsupported text = c.is_unsupported.ensures ∙ ap is_unsupported same in
    record {
      reading =
          step r.table.now r.classes r.dictionary_ignored trees n
          (control c.args.name.now c.args.place) r.variables r.variables r.least c.note_where-2.new.least
          r.switches c.after-self.result r.counts r.counts c.requires.reading c.requires.at
          (stay_variables r.table.now (rc_value r.classes.division).bounds trees r.variables n next c.requires.reading.defined)
          (note_two r.least c.note_where.new.least c.note_where-2.new.least
          (faults_where (not (is_supported text) && not (is_unsupported text)) c.args.place kinds.UnknownControl) (faults_where
          (is_unsupported text) c.args.place kinds.UnsupportedControl)
          (c.note_where.ensures ∙ ap (λ b. noted r.least (faults_where b c.args.place kinds.UnknownControl)) unknown)
          (c.note_where-2.ensures ∙ ap (λ b. noted c.note_where.new.least (faults_where b c.args.place kinds.UnsupportedControl)) unsupported))
          (subst (λ t. AreSwitches c.after-self.result (after_control k t)) same (c.after-self.ensures k c.requires.reading.switched))
          (λ left all so_far. so_far);
      leaves = leaves_next r.table.now (rc_value r.classes.division) trees begun.firsts r.firsts.items r.leaves.rows.items r.leaves.rows.items n _
          c.requires.at begun.is begun.before (record { more = []; is = sym (append-nil r.leaves.rows.items); each = tt });
      statements = refl;
      table = refl;
      ignored = refl;
    }
