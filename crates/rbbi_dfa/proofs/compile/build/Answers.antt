use Rattle.std.proofs.Common.{◌≡◌, Err, ap, sym, subst, ◌∙◌, ℕ, List, rules as std_rules}
use Rattle.rbbi_model.specs.Tables.{CategoryRange}
use Rattle.rbbi_model.specs.ValidTables.{AreValidRanges}
use Rattle.rbbi_model.specs.Compiled.{AreClasses}
use Rattle.rbbi_dfa.specs.inner.LeastTables.{GivesTable}
use Rattle.rbbi_dfa.specs.inner.MarkedRows.{AreOf}
use Rattle.rbbi_dfa.proofs.Building.{AreOf-from_compilable, AreReadable-from_of, BuildsTable-from_gives, BuildsTable-from_refused}
use Rattle.rbbi_dfa.proofs.compile.build.Goals as goal

pub automaton_of-requires-clause-readable : goal.automaton_of-requires-clause-readable
automaton_of-requires-clause-readable c =
    let marks = c.args.positions.now in
    let cats = c.args.cats.now in
    let rules = c.requires.0 in
    AreReadable-from_of rules c.count.result c.look_aheads-slashes.result cats.ranges marks
    (AreOf-from_compilable rules marks cats c.count.result c.look_aheads-slashes.result c.requires.1 c.count.ensures.form
    c.count.ensures.value c.look_aheads-slashes.ensures)

pub returns-in_err-automaton : goal.returns-in_err-automaton
returns-in_err-automaton c = λ rules h.
    let marks = c.args.positions.now in
    let cats = c.args.cats.now in
    BuildsTable-from_refused rules c.in_err-automaton.field-0.0 c.from_residual.result c.from_residual.ensures
    (λ e. c.in_err-automaton.ensures.too_many (ap Err e) rules cats.ranges
    (AreOf-from_compilable rules marks cats c.count.result c.look_aheads-slashes.result h c.count.ensures.form
    c.count.ensures.value c.look_aheads-slashes.ensures))
    (λ e. c.in_err-automaton.ensures.alone.0 (ap Err e)) (λ e. c.in_err-automaton.ensures.alone.1 (ap Err e))

pub least_table-requires-clause-determined : goal.least_table-requires-clause-determined
least_table-requires-clause-determined c =
    let marks = c.args.positions.now in
    let cats = c.args.cats.now in
    let rules = c.requires.0 in
    c.in_ok-automaton.ensures.determined rules cats.ranges
    (AreOf-from_compilable rules marks cats c.count.result c.look_aheads-slashes.result c.requires.1 c.count.ensures.form
    c.count.ensures.value c.look_aheads-slashes.ensures)

pub returns : goal.returns
returns c = λ rules h.
    let marks = c.args.positions.now in
    let cats = c.args.cats.now in
    let automaton = c.in_ok-automaton.automaton in
    let of : AreOf rules c.count.result c.look_aheads-slashes.result cats.ranges marks =
    AreOf-from_compilable rules marks cats c.count.result c.look_aheads-slashes.result h c.count.ensures.form
    c.count.ensures.value c.look_aheads-slashes.ensures in
    let is : automaton.categories ≡ c.count.result = c.in_ok-automaton.ensures.categories in
    let same : c.from_vec-ranges.result ≡ cats.ranges = search std_rules in
    BuildsTable-from_gives rules cats.ranges automaton (c.in_ok-automaton.ensures.determined rules cats.ranges of)
    (c.in_ok-automaton.ensures.marks rules cats.ranges of)
    (subst (λ (n : ℕ). AreValidRanges n cats.ranges) (sym is) of.valid)
    (subst (λ (n : ℕ). AreClasses rules n cats.ranges) (sym is) of.classes)
    (c.in_ok-automaton.ensures.few rules cats.ranges of) (c.marks_are_unique.ensures rules)
    c.least_table.result (subst (λ (ranges : List CategoryRange). GivesTable automaton ranges c.least_table.result) same c.least_table.ensures)
