use Rattle.std.proofs.Common.{◌≡◌, ℕ, List, None, length, refl, ap, ◌∙◌, subst, arith, rules}
use Rattle.std.specs.HashMap.{get_by_text}
use Rattle.rbbi_tree.specs.Values.{statement_trees}
use Rattle.rbbi_resolve.specs.inner.Readings.{IsReading, HasLeaves}
use Rattle.rbbi_resolve.proofs.Ending.{read_none}
use Rattle.rbbi_resolve.proofs.outcome.read_all.Goals as goal

pub loop-number-init : goal.loop-number-init
loop-number-init c =
    let none : (name : List ℕ) → get_by_text c.new-3.result name ≡ None = λ name. rw c.new-3.ensures.empty refl in
    record {
      reading = read_none _ c.in_ok-classes.classes c.args.ignore_dictionary
          (statement_trees c.args.statements.now) c.new-3.result c.new-4.result c.new-5.result none
          (c.new-4.ensures _) c.new-5.ensures (search rules) (search rules);
      leaves = record { long = ap length c.new-2.ensures.items; each = λ n s low at. absurd (omega arith) };
      statements = refl;
      table = refl;
      ignored = refl;
    }

pub read-requires-clause-inside : goal.read-requires-clause-inside
read-requires-clause-inside c =
    let same = ap length c.loop-number.invariant.statements in
    let test = c.loop-number-test.true in
    omega (arith, c.len-number-end.ensures)

pub read-requires-clause-reading : goal.read-requires-clause-reading
read-requires-clause-reading c = c.loop-number.invariant.reading

pub loop-number-preserved : goal.loop-number-preserved
loop-number-preserved c =
    let r = c.in_ok-read.ensures in
    let i = c.loop-number.invariant in
    record { reading = r.reading; leaves = r.leaves; statements = r.statements ∙ i.statements; table = r.table ∙ i.table; ignored = r.ignored ∙ i.ignored }

pub returns-clause-reading : goal.returns-clause-reading
returns-clause-reading c =
    let auto = c.loop-number.auto.number-end in
    let test = c.loop-number-test.false in
    let same : c.loop-number.number ≡ length c.args.statements.now = omega (arith, c.len-number-end.ensures) in
    subst (λ n. IsReading c.loop-number.reading n) same c.loop-number.invariant.reading

pub read-requires-clause-leaves : goal.read-requires-clause-leaves
read-requires-clause-leaves c = c.loop-number.invariant.leaves

pub returns-clause-leaves : goal.returns-clause-leaves
returns-clause-leaves c =
    let auto = c.loop-number.auto.number-end in
    let test = c.loop-number-test.false in
    let same : c.loop-number.number ≡ length c.args.statements.now = omega (arith, c.len-number-end.ensures) in
    subst (HasLeaves c.loop-number.reading) same c.loop-number.invariant.leaves

pub returns-clause-statements : goal.returns-clause-statements
returns-clause-statements c = c.loop-number.invariant.statements

pub returns-clause-table : goal.returns-clause-table
returns-clause-table c = c.loop-number.invariant.table

pub returns-clause-ignored : goal.returns-clause-ignored
returns-clause-ignored c = c.loop-number.invariant.ignored
