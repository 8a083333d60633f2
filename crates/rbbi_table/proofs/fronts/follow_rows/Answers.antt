use Rattle.std.proofs.Common.{◌<◌, ℕ, [], List, length, sym, subst, arith}
use Rattle.std.proofs.lemmas.List.{get_or_read}
use Rattle.rbbi_model.specs.Tables.{Table}
use Rattle.rbbi_table.specs.Parts.{rows_of}
use Rattle.rbbi_table.specs.inner.Fronts.{IsReached, GoesOn, GivesNext}
use Rattle.rbbi_table.proofs.Truth.{refuted, granted}
use Rattle.rbbi_table.proofs.FrontLemmas.{fronted_by, passed_on}
use Rattle.rbbi_table.proofs.fronts.follow_rows.Goals as goal

pub follow_row-requires-clause-reached : goal.follow_row-requires-clause-reached
follow_row-requires-clause-reached c =
    let queue : List ℕ = c.loop-done.queue.items in
    let short : c.loop-done.done < length queue = omega (arith, c.loop-done-test.true, c.len.ensures, c.loop-done.queue.ok.0) in
    subst (λ n. IsReached (rows_of c.args.width c.args.rows.now c.args.cells.now []) c.args.slash n)
    (sym (get_or_read queue c.loop-done.done c.index.result.now short c.index.ensures 0)) (c.loop-done.invariant.walk.reached c.loop-done.done short)

pub returns-then-not-followed : goal.returns-then-not-followed
returns-then-not-followed c =
    refuted (subst (λ b. GivesNext (rows_of c.args.width c.args.rows.now c.args.cells.now []) c.args.slash c.index.result.now c.loop-done.queue.items
    c.follow_row.new.seen.items c.follow_row.new.queue.items b) c.if-not-followed.true c.in_ok-followed.ensures)

pub loop-done-preserved : goal.loop-done-preserved
loop-done-preserved c =
    let table : Table = rows_of c.args.width c.args.rows.now c.args.cells.now [] in
    let old : List ℕ = c.loop-done.queue.items in
    let new : List ℕ = c.follow_row.new.queue.items in
    let short : c.loop-done.done < length old = omega (arith, c.loop-done-test.true, c.len.ensures, c.loop-done.queue.ok.0) in
    let on : GoesOn table c.args.slash c.index.result.now old c.follow_row.new.seen.items new =
    subst (λ b. GivesNext table c.args.slash c.index.result.now old c.follow_row.new.seen.items new b) c.if-not-followed.false c.in_ok-followed.ensures in
    record {
      walk = on.walk;
      short = omega (arith, (on.keeps c.loop-done.done short).0);
      passed = passed_on table c.args.slash c.index.result.now c.loop-done.done old c.follow_row.new.seen.items new c.loop-done.invariant.passed short
          (get_or_read old c.loop-done.done c.index.result.now short c.index.ensures 0) on;
    }

pub returns : goal.returns
returns c =
    let inv = c.loop-done.invariant in
    granted (fronted_by (rows_of c.args.width c.args.rows.now c.args.cells.now []) c.args.slash c.loop-done.seen.items c.loop-done.queue.items inv.walk
    (λ i short category low. inv.passed i (omega (arith, short, c.loop-done-test.false, c.len.ensures, c.loop-done.queue.ok.0)) category low))
