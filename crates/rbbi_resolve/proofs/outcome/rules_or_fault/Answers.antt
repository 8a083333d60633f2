use Rattle.std.proofs.Common.{◌≡◌, ℕ, [], Some, None, inl, inr, length, sym, ◌∙◌, subst, arith}
use Rattle.std.proofs.lemmas.List.{length-map}
use Rattle.rbbi_tree.specs.Values.{statement_trees}
use Rattle.rbbi_resolve.specs.declared.file.Reading.{Reading}
use Rattle.rbbi_resolve.specs.Faults.{noted}
use Rattle.rbbi_resolve.specs.Files.{faults_of, active_rules}
use Rattle.rbbi_resolve.specs.Counts.{size_fault}
use Rattle.rbbi_resolve.specs.Refusals.{IsReason, fault_of}
use Rattle.rbbi_resolve.specs.inner.Readings.{IsReading}
use Rattle.rbbi_resolve.specs.inner.Countings.{AreCounting}
use Rattle.rbbi_resolve.proofs.Earliest.{least_noted, none_noted}
use Rattle.rbbi_resolve.proofs.Ending.{least_of_all, counting_all}
use Rattle.rbbi_resolve.proofs.outcome.rules_or_fault.Goals as goal

-- what was read is the whole
least_read : (r : Reading) → IsReading r (length r.statements.now) →
    noted None (faults_of r.table.now r.dictionary_ignored (statement_trees r.statements.now)) ≡ r.least
least_read r read =
    let long : length (statement_trees r.statements.now) ≡ length r.statements.now = simp length-map in
    least_of_all r.table.now r.classes r.dictionary_ignored (statement_trees r.statements.now) r.variables r.least r.switches r.counts
    (length r.statements.now) (omega arith) read

counting_read : (r : Reading) → IsReading r (length r.statements.now) →
    AreCounting r.counts [] (active_rules r.table.now (statement_trees r.statements.now))
counting_read r read =
    let long : length (statement_trees r.statements.now) ≡ length r.statements.now = simp length-map in
    counting_all r.table.now r.classes r.dictionary_ignored (statement_trees r.statements.now) r.variables r.least r.switches r.counts
    (length r.statements.now) (omega arith) read

pub returns-in-Some-clause-refused : goal.returns-in-Some-clause-refused
returns-in-Some-clause-refused c =
    let r = c.args.reading.now in
    let faults = faults_of r.table.now r.dictionary_ignored (statement_trees r.statements.now) in
    let count = size_fault c.args.end (active_rules r.table.now (statement_trees r.statements.now)) in
    subst (IsReason faults count) (sym c.refusal.ensures)
    (inl (least_noted faults c.in-Some.fault (least_read r c.requires.reading ∙ c.in-Some.is)))

pub returns-in-Some-fault-clause-refused : goal.returns-in-Some-fault-clause-refused
returns-in-Some-fault-clause-refused c =
    let r = c.args.reading.now in
    let T = statement_trees r.statements.now in
    let faults = faults_of r.table.now r.dictionary_ignored T in
    let ms = active_rules r.table.now T in
    let none = none_noted faults (least_read r c.requires.reading ∙ c.in_default.is) in
    let count : size_fault c.args.end ms ≡ Some c.in-Some-fault.fault =
    sym (c.fault.ensures ms (counting_read r c.requires.reading)) ∙ c.in-Some-fault.is in
    subst (IsReason faults (size_fault c.args.end ms)) (sym c.refusal-in-Some-fault.ensures) (inr (none, count))

pub build_rules-requires-clause-faultless : goal.build_rules-requires-clause-faultless
build_rules-requires-clause-faultless c =
    let r = c.args.reading.now in
    none_noted (faults_of r.table.now r.dictionary_ignored (statement_trees r.statements.now)) (least_read r c.requires.reading ∙ c.in_default.is)

pub build_rules-requires-clause-few : goal.build_rules-requires-clause-few
build_rules-requires-clause-few c =
    let r = c.args.reading.now in
    let ms = active_rules r.table.now (statement_trees r.statements.now) in
    (c.args.end, sym (c.fault.ensures ms (counting_read r c.requires.reading)) ∙ c.in_default-fault.is)
