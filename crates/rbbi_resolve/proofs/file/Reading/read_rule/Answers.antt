use Rattle.std.proofs.Common.{◌≡◌, ◌+◌, ◌∷◌, [], ◌++◌, true, false, List, if◌then◌else◌, sym, refl, ap, ◌∙◌, subst, arith}
use Rattle.std.specs.Rc.{rc_value}
use Rattle.rbbi_tree.specs.Trees.{rule}
use Rattle.rbbi_tree.specs.Values.{statement_trees, expr_tree, rest_tree}
use Rattle.rbbi_classes.specs.Divisions.{stand_in}
use Rattle.rbbi_resolve.specs.declared.counts.Counts as declared
use Rattle.rbbi_resolve.specs.Files.{RuleMeaning, rule_in}
use Rattle.rbbi_resolve.specs.inner.Files.{context_at}
use Rattle.rbbi_resolve.specs.inner.Countings.{AreCounting}
use Rattle.rbbi_resolve.specs.inner.Readings.{IsReadTo}
use Rattle.rbbi_resolve.proofs.Steps.{describes, step, context_next, stay_variables, meant, rest_there}
use Rattle.rbbi_resolve.specs.Parts.{parts_of_expr}
use Rattle.rbbi_resolve.specs.inner.Covered.{parts_of_rest}
use Rattle.rbbi_resolve.proofs.Covering.{covered_left, covered_right}
use Rattle.rbbi_resolve.proofs.Respecting.{context_respects}
use Rattle.rbbi_resolve.specs.inner.Readings.{AreLeavesTo}
use Rattle.rbbi_resolve.proofs.LeafRows.{leaves_next}
use Rattle.rbbi_resolve.proofs.file.Reading.read_rule.Goals as goal
use Rattle.rbbi_resolve.proofs.file.Reading.read_rule.Goals.{In_ok-whole}

-- the rule is read, where the counts go on behind it
read_to : (c : In_ok-whole) (counts : declared.Counts) →
    ((left all : List RuleMeaning) →
    AreCounting c.args.self.now.counts
    (rule_in (context_at c.args.self.now.table.now (statement_trees c.args.self.now.statements.now) c.args.number)
    (rule c.args.place c.requires.at.0 (expr_tree c.args.front.now) c.args.slash (rest_tree c.args.rest.now) c.requires.at.1) ++ left) all →
    AreCounting counts left all) →
    IsReadTo c.args.self.now.table.now c.args.self.now.classes c.args.self.now.dictionary_ignored
    (statement_trees c.args.self.now.statements.now) c.args.self.now.variables
    c.check_rule.new.least c.args.self.now.switches counts (c.args.number + 1)
read_to c counts go_on =
    let r = c.args.self.now in
    let files = r.table.now in
    let trees = statement_trees r.statements.now in
    let n = c.args.number in
    let s = rule c.args.place c.requires.at.0 (expr_tree c.args.front.now) c.args.slash (rest_tree c.args.rest.now) c.requires.at.1 in
    let next = ap (λ x. x.variables) (context_next files trees n s c.requires.at.2) in
    step files r.classes r.dictionary_ignored trees n s r.variables r.variables r.least c.check_rule.new.least r.switches r.switches r.counts counts
    c.requires.reading c.requires.at.2 (stay_variables files (rc_value r.classes.division).bounds trees r.variables n next c.requires.reading.defined)
    c.in_ok-whole.ensures.noted
    c.requires.reading.switched go_on

-- its leaves stand behind those of the earlier statements
added : (c : In_ok-whole) →
    AreLeavesTo c.args.self.now.table.now (rc_value c.args.self.now.classes.division) (statement_trees c.args.self.now.statements.now)
    c.args.self.now.firsts.items c.check_rule.new.leaves.rows.items (c.args.number + 1)
added c =
    let r = c.args.self.now in
    let begun = c.requires.leaves in
    leaves_next r.table.now (rc_value r.classes.division) (statement_trees r.statements.now) begun.firsts r.firsts.items r.leaves.rows.items
    c.check_rule.new.leaves.rows.items c.args.number _ c.requires.at.2 begun.is begun.before c.in_ok-whole.ensures.rows

pub returns-then-self : goal.returns-then-self
returns-then-self c =
    let r = c.args.self.now in
    let k = context_at r.table.now (statement_trees r.statements.now) c.args.number in
    let means = meant k c.args.place c.requires.at.0 (expr_tree c.args.front.now) (rest_tree c.args.rest.now) c.requires.at.1 in
    let active : k.active ≡ true = sym c.requires.reading.switched.active ∙ c.if-self.true in
    record {
      reading = read_to (goal.at.returns-then-self c).In_ok-whole c.add.new.self (λ left all so_far.
          c.add.ensures means left all refl c.in_ok-whole.ensures.counts.leaf_sum c.in_ok-whole.ensures.counts.height_sum (rest_there k c.args.rest.now
          ∙ sym c.is_some.ensures)
          (subst (λ b. AreCounting r.counts ((if b then means ∷ [] else []) ++ left) all) active so_far));
      leaves = added (goal.at.returns-then-self c).In_ok-whole;
      statements = refl;
      table = refl;
      ignored = refl;
    }

pub returns-else-self : goal.returns-else-self
returns-else-self c =
    let r = c.args.self.now in
    let k = context_at r.table.now (statement_trees r.statements.now) c.args.number in
    let means = meant k c.args.place c.requires.at.0 (expr_tree c.args.front.now) (rest_tree c.args.rest.now) c.requires.at.1 in
    let inactive : k.active ≡ false = sym c.requires.reading.switched.active ∙ c.if-self.false in
    record {
      reading = read_to (goal.at.returns-else-self c).In_ok-whole r.counts
          (λ left all so_far. subst (λ b. AreCounting r.counts ((if b then means ∷ [] else []) ++ left) all) inactive so_far);
      leaves = added (goal.at.returns-else-self c).In_ok-whole;
      statements = refl;
      table = refl;
      ignored = refl;
    }

pub check_rule-requires-clause-front : goal.check_rule-requires-clause-front
check_rule-requires-clause-front c =
    let r = c.args.self.now in
    covered_left r.table.now (stand_in (rc_value r.classes.division)) (parts_of_expr (expr_tree c.args.front.now)) (parts_of_rest (rest_tree c.args.rest.now))
    (c.requires.reading.covered.each c.args.number _ c.requires.at.2)

pub check_rule-requires-clause-rest : goal.check_rule-requires-clause-rest
check_rule-requires-clause-rest c =
    let r = c.args.self.now in
    covered_right r.table.now (stand_in (rc_value r.classes.division)) (parts_of_expr (expr_tree c.args.front.now)) (parts_of_rest (rest_tree c.args.rest.now))
    (c.requires.reading.covered.each c.args.number _ c.requires.at.2)

pub check_rule-requires-clause-context : goal.check_rule-requires-clause-context
check_rule-requires-clause-context c =
    let r = c.args.self.now in
    let trees = statement_trees r.statements.now in
    let n = c.args.number in
    record {
      respects = context_respects r.table.now (stand_in (rc_value r.classes.division)) trees n c.requires.reading.covered;
      describes = describes r.table.now (rc_value r.classes.division).bounds trees r.variables n n (omega arith) c.requires.reading.defined;
      classes = c.requires.reading.classified;
    }
