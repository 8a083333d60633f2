use Rattle.std.proofs.Common.{◌≤◌, ℕ, List, length, arith}
use Rattle.std.proofs.lemmas.Result.{IfOk-weaker}
use Rattle.rbbi_model.specs.Rules.{Rule}
use Rattle.rbbi_model.specs.Tables.{Table, CategoryRange}
use Rattle.rbbi_model.specs.Marks.{HasSameMarks}
use Rattle.rbbi_model.specs.LeafSets.{HasLeafSets}
use Rattle.rbbi_positions.specs.PositionMarks.{PositionMarks}
use Rattle.rbbi_dfa.specs.inner.Automata.{IsDetermined, with_ranges}
use Rattle.rbbi_dfa.specs.inner.PositionRows.{PositionRows}
use Rattle.rbbi_dfa.specs.inner.PositionAutomata.{IsOfRules}
use Rattle.rbbi_dfa.specs.inner.Determinizing.{IsDeterminized}
use Rattle.rbbi_dfa.specs.inner.MarkedRows.{AreOf, AreRowsOf}
use Rattle.rbbi_dfa.proofs.RowsOfRules.{rows_are_of_rules}
use Rattle.rbbi_dfa.proofs.WordMarks.{has_same_marks}
use Rattle.rbbi_dfa.proofs.Valid.{is_determined}
use Rattle.rbbi_dfa.proofs.Counting.{reached_are_leaf_sets, no_more_leaf_sets}
use Rattle.rbbi_dfa.proofs.determinize.automaton_of.Goals as goal

is_of : (rules : List Rule) (categories slashes : ℕ) (ranges : List CategoryRange) (marks : PositionMarks) (rows : PositionRows) →
    AreOf rules categories slashes ranges marks → AreRowsOf marks categories slashes rows → IsOfRules rules ranges rows
is_of rules categories slashes ranges marks rows of by =
    rows_are_of_rules rules categories ranges marks of.positions of.valid of.classes slashes rows of.slashes_are by

-- what `determinized` promises
abbrev Exact : PositionRows → Table → Type 0
Exact rows automaton = (sets : List (List ℕ)) × (length sets ≤ 16384) × IsDeterminized rows sets automaton

pub returns-clause-marks : goal.returns-clause-marks
returns-clause-marks c =
    let rows = c.in_ok-rows.rows in
    IfOk-weaker c.determinized.result (Exact rows)
    (λ automaton. (rules : List Rule) (ranges : List CategoryRange) → AreOf rules c.args.categories c.args.slashes ranges c.args.positions.now →
    HasSameMarks (with_ranges automaton ranges) rules)
    (λ automaton exact rules ranges of. has_same_marks rules of.lawful ranges rows
    (is_of rules c.args.categories c.args.slashes ranges c.args.positions.now rows of c.in_ok-rows.ensures) exact.0 automaton exact.2)
    c.determinized.ensures.exact

pub returns-clause-determined : goal.returns-clause-determined
returns-clause-determined c =
    let rows = c.in_ok-rows.rows in
    IfOk-weaker c.determinized.result (Exact rows)
    (λ automaton. (rules : List Rule) (ranges : List CategoryRange) → AreOf rules c.args.categories c.args.slashes ranges c.args.positions.now →
    IsDetermined automaton)
    (λ automaton exact rules ranges of. is_determined rules of.lawful ranges rows
    (is_of rules c.args.categories c.args.slashes ranges c.args.positions.now rows of c.in_ok-rows.ensures) exact.0 automaton exact.2 exact.1)
    c.determinized.ensures.exact

pub returns-clause-few : goal.returns-clause-few
returns-clause-few c =
    let rows = c.in_ok-rows.rows in
    IfOk-weaker c.determinized.result (Exact rows)
    (λ automaton. (rules : List Rule) (ranges : List CategoryRange) → AreOf rules c.args.categories c.args.slashes ranges c.args.positions.now →
    ¬ HasLeafSets rules 16385)
    (λ automaton exact rules ranges of. no_more_leaf_sets rules of.lawful ranges rows
    (is_of rules c.args.categories c.args.slashes ranges c.args.positions.now rows of c.in_ok-rows.ensures) exact.0 automaton exact.2 16385
    (omega (arith, exact.1)))
    c.determinized.ensures.exact

pub returns-clause-too_many : goal.returns-clause-too_many
returns-clause-too_many c = λ refused rules ranges of.
    let rows = c.in_ok-rows.rows in
    reached_are_leaf_sets rules of.lawful ranges rows (is_of rules c.args.categories c.args.slashes ranges c.args.positions.now rows of c.in_ok-rows.ensures)
    16385 (c.determinized.ensures.refused refused)
