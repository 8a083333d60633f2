use Rattle.std.proofs.Common.{◌≡◌, [], ◌∷◌, ◌++◌, length, Some, slice_get, refl, sym, ap, ◌∙◌, arith}
use Rattle.std.specs.Rc.{rc_value}
use Rattle.rbbi_tree.specs.Trees.{nothing}
use Rattle.rbbi_tree.specs.Values.{statement_trees}
use Rattle.rbbi_resolve.proofs.Steps.{tree_at, step, context_next, stay_variables}
use Rattle.std.proofs.lemmas.List.{append-nil}
use Rattle.rbbi_resolve.proofs.LeafRows.{leaves_next}
use Rattle.rbbi_resolve.proofs.file.Reading.read.Goals as goal
use Rattle.rbbi_resolve.proofs.file.Reading.read.Goals.{In_ok-push}

-- the first leaf of the statement is the next one
begun : (c : In_ok-push) → c.push.new.self.items ≡ c.args.self.now.firsts.items ++ length c.args.self.now.leaves.rows.items ∷ []
begun c =
    let first : c.len.result ≡ length c.args.self.now.leaves.rows.items = omega (arith, c.len.ensures, c.args.self.now.leaves.rows.ok.0) in
    c.in_ok-push.ensures.items ∙ ap (λ n. c.args.self.now.firsts.items ++ n ∷ []) first

pub returns-in-Nothing : goal.returns-in-Nothing
returns-in-Nothing c =
    let r = c.args.self.now in
    let trees = statement_trees r.statements.now in
    let n = c.args.number in
    let at : slice_get trees n ≡ Some nothing = tree_at r.statements.now n _ (c.get.ensures ∙ ap Some c.in-Nothing.is) in
    let next = ap (λ x. x.variables) (context_next r.table.now trees n nothing at) in
    record {
      reading =
          step r.table.now r.classes r.dictionary_ignored trees n nothing r.variables r.variables r.least r.least r.switches r.switches r.counts r.counts
          c.requires.reading at
          (stay_variables r.table.now (rc_value r.classes.division).bounds trees r.variables n next c.requires.reading.defined)
          refl
          c.requires.reading.switched
          (λ left all so_far. so_far);
      leaves = leaves_next r.table.now
          (rc_value r.classes.division) trees r.firsts.items c.push.new.self.items r.leaves.rows.items r.leaves.rows.items n nothing
          at (begun (goal.at.returns-in-Nothing c).In_ok-push) c.requires.leaves (record { more = []; is = sym (append-nil r.leaves.rows.items); each = tt });
      statements = refl;
      table = refl;
      ignored = refl;
    }

pub read_control-requires-clause-leaves : goal.read_control-requires-clause-leaves
read_control-requires-clause-leaves c =
    record { firsts = c.args.self.now.firsts.items; is = begun (goal.at.read_control-requires-clause-leaves c).In_ok-push; before = c.requires.leaves }

pub read_assignment-requires-clause-leaves : goal.read_assignment-requires-clause-leaves
read_assignment-requires-clause-leaves c =
    record { firsts = c.args.self.now.firsts.items; is = begun (goal.at.read_assignment-requires-clause-leaves c).In_ok-push; before = c.requires.leaves }

pub read_rule-requires-clause-leaves : goal.read_rule-requires-clause-leaves
read_rule-requires-clause-leaves c =
    record { firsts = c.args.self.now.firsts.items; is = begun (goal.at.read_rule-requires-clause-leaves c).In_ok-push; before = c.requires.leaves }

pub read_rule-requires-clause-at : goal.read_rule-requires-clause-at
read_rule-requires-clause-at c =
    (c.in-Rule.no_chain_in, c.in-Rule.tag, tree_at c.args.self.now.statements.now c.args.number _ (c.get.ensures ∙ ap Some c.in-Rule.is))
