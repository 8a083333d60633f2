-- Each run passes or doesn't, and behind the last one all are read.
use Rattle.std.proofs.Common.{sym, ap, subst, ◌∙◌, arith}
use Rattle.unicode.specs.Steps.{is_between}
use Rattle.rbbi_sets.specs.Covers.{covers}
use Rattle.rbbi_props.proofs.ReadRuns.{IsReadFrom, IsReadFrom-none, IsReadFrom-full, IsReadFrom-kept, IsReadFrom-left, IsReadFrom-all}
use Rattle.rbbi_props.proofs.runs.set_of_runs.Goals.{then-not-has_value+in_ok-push_runs, else-not-has_value}
use Rattle.rbbi_props.proofs.runs.set_of_runs.Goals as goal

pub loop-i-init : goal.loop-i-init
loop-i-init c =
    let p = is_between c.args.first c.args.last in
    subst (IsReadFrom c.args.runs.now p 0 0) (sym c.new-ranges.ensures.items) (IsReadFrom-none c.args.runs.now p c.requires.partition)

pub loop-i-preserved : goal.loop-i-preserved
loop-i-preserved c =
    let runs = c.args.runs.now in
    let p = is_between c.args.first c.args.last in
    let i = c.loop-i.i in
    let from = c.loop-i.from in
    let ranges = c.loop-i.ranges.items in
    let read = c.loop-i.invariant in
    let test = c.has_value.ensures in
    elim c.if-not-has_value.branch [
      | then-not-has_value+in_ok-push_runs w ↦
          let more = w.push_runs.new.ranges.items in
          let full = IsReadFrom-full runs p i from ranges read more w.in_ok-push_runs.ensures in
          rw (w.from-is, w.ranges-is) (IsReadFrom-left runs p i from ranges read c.loop-i-test.true more full (sym test ∙ w.if-not-has_value.true))
      | else-not-has_value w ↦
          rw (w.from-is, w.ranges-is) (IsReadFrom-kept runs p i from ranges read c.loop-i-test.true (sym test ∙ w.if-not-has_value.false))
    ]

pub from_rising-requires : goal.from_rising-requires
from_rising-requires c =
    (IsReadFrom-all c.args.runs.now (is_between c.args.first c.args.last) c.loop-i.i c.loop-i.from c.loop-i.ranges.items c.push_runs-2.new.ranges.items
    c.loop-i.invariant (omega arith) c.in_ok-push_runs-2.ensures).0

pub returns-clause-members : goal.returns-clause-members
returns-clause-members c = λ x le.
    ap (λ set. covers set x) c.from_rising.ensures
    ∙ (IsReadFrom-all c.args.runs.now (is_between c.args.first c.args.last) c.loop-i.i c.loop-i.from c.loop-i.ranges.items c.push_runs-2.new.ranges.items
    c.loop-i.invariant (omega arith) c.in_ok-push_runs-2.ensures).1 x le
