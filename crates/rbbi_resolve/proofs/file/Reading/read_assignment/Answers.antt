use Rattle.std.proofs.Common.{◌≡◌, ◌+◌, ℕ, ◌&&◌, not, is_some, Some, None, List, bytes_eq, codes, encode_utf8_all, string_bytes}
use Rattle.std.proofs.Common.{sym, refl, ap, ◌∙◌, arith}
use Rattle.std.specs.Option.{option_copied}
use Rattle.std.specs.HashMap.{get_by_text}
use Rattle.std.specs.Map.{update}
use Rattle.std.proofs.lemmas.Map.Text.{hash_map_updates_text}
use Rattle.std.specs.Rc.{rc_value}
use Rattle.rbbi_tree.specs.Trees.{assign}
use Rattle.rbbi_tree.specs.Values.{statement_trees, expr_tree}
use Rattle.rbbi_resolve.specs.declared.fault.FaultKind.TheVariants as kinds
use Rattle.rbbi_resolve.specs.Contexts.{variable_of}
use Rattle.rbbi_resolve.specs.inner.Files.{context_at}
use Rattle.rbbi_resolve.specs.Faults.{faults_where, faults_of_parts, noted}
use Rattle.rbbi_resolve.specs.Parts.{parts_of_expr}
use Rattle.rbbi_resolve.specs.inner.Contexts.{Variables, AreVariables, visible}
use Rattle.rbbi_resolve.specs.inner.Readings.{IsReadTo}
use Rattle.rbbi_resolve.proofs.Steps.{step, context_next, stay_variables, join_variable, note_three, with_known, with_new, describes, matches_some, unseen}
use Rattle.rbbi_resolve.proofs.Ending.{switches_kept}
use Rattle.rbbi_classes.specs.Divisions.{stand_in}
use Rattle.rbbi_resolve.proofs.Respecting.{context_respects}
use Rattle.rbbi_resolve.specs.inner.Readings.{AreLeavesTo}
use Rattle.rbbi_resolve.proofs.LeafRows.{leaves_next}
use Rattle.rbbi_resolve.proofs.file.Reading.read_assignment.Goals as goal
use Rattle.rbbi_resolve.proofs.file.Reading.read_assignment.Goals.{In_ok-kind}

-- whether the name is assigned, as the variables tell it
shown : (c : In_ok-kind) →
    c.is_some-is_assigned.result ≡ is_some (visible c.args.number (get_by_text c.args.self.now.variables (encode_utf8_all c.args.name.now)))
shown c =
    let copied : is_some (option_copied c.variable.result) ≡ is_some c.variable.result =
    elim c.variable.result as (λ x. is_some (option_copied x) ≡ is_some x) [ None ↦ refl | Some y ↦ refl ] in
    c.is_some-is_assigned.ensures ∙ sym copied ∙ ap is_some c.variable.ensures

-- and as the statements before tell it
assigned : (c : In_ok-kind) →
    c.is_some-is_assigned.result
    ≡ is_some (variable_of (context_at c.args.self.now.table.now (statement_trees c.args.self.now.statements.now) c.args.number) c.args.name.now)
assigned c =
    let r = c.args.self.now in
    let n = c.args.number in
    shown c
    ∙ matches_some r.table.now (rc_value r.classes.division).bounds _ _ _ ((describes r.table.now (rc_value r.classes.division).bounds
    (statement_trees r.statements.now) r.variables n n (omega arith) c.requires.reading.defined).same
    (encode_utf8_all c.args.name.now))

-- the assignment is read, where the variables are those behind it
read_to : (c : In_ok-kind) (variables : Variables) →
    AreVariables c.args.self.now.table.now (rc_value c.args.self.now.classes.division).bounds (statement_trees c.args.self.now.statements.now) variables
    (c.args.number + 1) →
    IsReadTo c.args.self.now.table.now c.args.self.now.classes c.args.self.now.dictionary_ignored
    (statement_trees c.args.self.now.statements.now) variables
    c.check_definition.new.least c.args.self.now.switches c.args.self.now.counts (c.args.number + 1)
read_to c variables are =
    let r = c.args.self.now in
    let files = r.table.now in
    let trees = statement_trees r.statements.now in
    let n = c.args.number in
    let word = c.args.name.now in
    let expr = expr_tree c.args.expr.now in
    let k = context_at files trees n in
    step files r.classes r.dictionary_ignored trees n (assign word c.args.place expr) r.variables variables r.least c.check_definition.new.least
    r.switches r.switches
    r.counts r.counts c.requires.reading c.requires.at are
    (note_three r.least c.note_where.new.least c.note_where-2.new.least c.check_definition.new.least
    (faults_where (bytes_eq (encode_utf8_all word) (codes "dictionary") && not r.dictionary_ignored) c.args.place kinds.Dictionary)
    (faults_where (is_some (variable_of k word)) c.args.place kinds.Redefined) (faults_of_parts k (parts_of_expr expr))
    (c.note_where.ensures ∙ ap (λ b. noted r.least (faults_where b c.args.place kinds.Dictionary)) c.is_refused_dictionary-is_dictionary.ensures)
    (c.note_where-2.ensures ∙ ap (λ b. noted c.note_where.new.least (faults_where b c.args.place kinds.Redefined)) (assigned c))
    c.in_ok-kind.ensures.noted)
    (switches_kept r.switches k word expr c.requires.reading.switched)
    (λ left all so_far. so_far)

-- its leaves stand behind those of the earlier statements
added : (c : In_ok-kind) →
    AreLeavesTo c.args.self.now.table.now (rc_value c.args.self.now.classes.division) (statement_trees c.args.self.now.statements.now)
    c.args.self.now.firsts.items c.check_definition.new.leaves.rows.items (c.args.number + 1)
added c =
    let r = c.args.self.now in
    let begun = c.requires.leaves in
    leaves_next r.table.now (rc_value r.classes.division) (statement_trees r.statements.now) begun.firsts r.firsts.items r.leaves.rows.items
    c.check_definition.new.leaves.rows.items c.args.number _ c.requires.at begun.is begun.before c.in_ok-kind.ensures.rows

pub returns-then-is_assigned : goal.returns-then-is_assigned
returns-then-is_assigned c =
    let read = (goal.at.returns-then-is_assigned c).In_ok-kind in
    let r = c.args.self.now in
    let trees = statement_trees r.statements.now in
    let n = c.args.number in
    let word = c.args.name.now in
    let expr = expr_tree c.args.expr.now in
    let stays = with_known (context_at r.table.now trees n) word expr (sym (assigned read) ∙ c.if-is_assigned.true) in
    let next = ap (λ x. x.variables) (context_next r.table.now trees n (assign word c.args.place expr) c.requires.at ∙ stays) in
    record {
      reading = read_to read r.variables (stay_variables r.table.now (rc_value r.classes.division).bounds trees r.variables n next c.requires.reading.defined);
      leaves = added read;
      statements = refl;
      table = refl;
      ignored = refl;
    }

pub returns : goal.returns
returns c =
    let read = (goal.at.returns c).In_ok-kind in
    let r = c.args.self.now in
    let files = r.table.now in
    let trees = statement_trees r.statements.now in
    let n = c.args.number in
    let word = c.args.name.now in
    let text = encode_utf8_all word in
    let expr = expr_tree c.args.expr.now in
    let unknown : get_by_text r.variables text ≡ None =
    unseen files (rc_value r.classes.division).bounds trees n text (get_by_text r.variables text) (c.requires.reading.defined.each text) (sym
    (shown read) ∙ c.if-is_assigned.false) in
    let joins = with_new (context_at files trees n) word expr (sym (assigned read) ∙ c.if-is_assigned.false) in
    let next = ap (λ x. x.variables) (context_next files trees n (assign word c.args.place expr) c.requires.at ∙ joins) in
    let key : string_bytes c.in_ok-key.key ≡ text = c.in_ok-key.ensures.ok ∙ c.as_str.ensures.bytes in
    let put : (cs : List ℕ) → get_by_text c.insert.new.self cs ≡ update bytes_eq (get_by_text r.variables) text
    (Some (record { statement = n; kind = c.in_ok-kind.kind })) cs =
    λ cs. hash_map_updates_text (string_bytes c.in_ok-key.key) r.variables c.insert.new.self _ c.in_ok-insert.ensures.updates cs
    ∙ ap (λ b. update bytes_eq (get_by_text r.variables) b (Some (record { statement = n; kind = c.in_ok-kind.kind })) cs) key in
    record {
      reading = read_to read c.insert.new.self (join_variable files
          (rc_value r.classes.division).bounds trees r.variables c.insert.new.self n word c.args.place expr c.in_ok-kind.kind
          c.requires.at next unknown c.in_ok-kind.ensures.kind put c.requires.reading.defined);
      leaves = added read;
      statements = refl;
      table = refl;
      ignored = refl;
    }

pub check_definition-requires-clause-covered : goal.check_definition-requires-clause-covered
check_definition-requires-clause-covered c = c.requires.reading.covered.each c.args.number _ c.requires.at

pub check_definition-requires-clause-context : goal.check_definition-requires-clause-context
check_definition-requires-clause-context c =
    let r = c.args.self.now in
    let trees = statement_trees r.statements.now in
    let n = c.args.number in
    record {
      respects = context_respects r.table.now (stand_in (rc_value r.classes.division)) trees n c.requires.reading.covered;
      describes = describes r.table.now (rc_value r.classes.division).bounds trees r.variables n n (omega arith) c.requires.reading.defined;
      classes = c.requires.reading.classified;
    }
