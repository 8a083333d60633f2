use Rattle.std.proofs.Common.{◌≡◌, ℕ, ◌+◌, [], List, length, get_or, ap, sym, ◌∙◌, subst, inl, inr, ⊎_elim, arith}
use Rattle.std.proofs.lemmas.Bool.{cases_eq}
use Rattle.std.proofs.lemmas.List.{get_or_read}
use Rattle.rbbi_model.specs.Places.{has_bit}
use Rattle.rbbi_model.specs.Tables.{Table, RowHead, empty_head, accept_of, step}
use Rattle.rbbi_table.specs.Parts.{rows_of}
use Rattle.rbbi_table.specs.inner.Fronts.{IsPassed}
use Rattle.rbbi_table.specs.inner.Targets.{AddsTarget}
use Rattle.rbbi_table.proofs.MoveLemmas.{steps_of, steps_long}
use Rattle.rbbi_table.proofs.FrontLemmas.{IsCell, cell_is, walk_on, reached_on, unfronted, passed_more}
use Rattle.rbbi_table.proofs.fronts.follow_row.Goals as goal
use Rattle.rbbi_table.proofs.fronts.follow_row.Goals.{In-loop-cell, After-index-rows-cell}

cell : (c : In-loop-cell) → IsCell c.args.width c.args.rows.now c.args.cells.now c.args.row c.loop-cell.cell-index
cell c =
    cell_is c.args.width c.args.rows.now c.args.cells.now c.args.row c.loop-cell.cell-index c.requires.steps c.requires.reached.within c.loop-cell-test.true

-- the head that is read is that of the next row
head : (c : After-index-rows-cell) → IsCell c.args.width c.args.rows.now c.args.cells.now c.args.row c.loop-cell.cell-index → c.index-rows-cell.result
    ≡ get_or c.args.rows.now (step (rows_of c.args.width c.args.rows.now c.args.cells.now []) c.args.row c.loop-cell.cell-index) empty_head
head c at =
    get_or_read c.args.rows.now (get_or (steps_of c.args.width c.args.cells.now c.args.row) c.loop-cell.cell-index 0) c.index-rows-cell.result
    (omega (arith, at.is, at.within)) c.index-rows-cell.is empty_head ∙ ap (λ n. get_or c.args.rows.now n empty_head) at.is

pub bounds-rows-cell : goal.bounds-rows-cell
bounds-rows-cell c = let at = cell (goal.at.bounds-rows-cell c).In-loop-cell in omega (arith, at.is, at.within)

pub returns-then-head-slash : goal.returns-then-head-slash
returns-then-head-slash c =
    let h = goal.at.returns-then-head-slash c in
    let at = cell h.In-loop-cell in
    let is = c.head.view_is ∙ head h.After-index-rows-cell at in
    unfronted (rows_of c.args.width c.args.rows.now c.args.cells.now []) c.args.slash c.args.row c.loop-cell.cell-index
    c.requires.reached at.low (sym (ap (λ (r : RowHead). r.accept) is) ∙ c.if-head-slash.true)

pub loop-cell-preserved-then-has_front : goal.loop-cell-preserved-then-has_front
loop-cell-preserved-then-has_front c =
    let h = goal.at.loop-cell-preserved-then-has_front c in
    let inv = c.loop-cell.invariant in
    let table : Table = rows_of c.args.width c.args.rows.now c.args.cells.now [] in
    let row : ℕ = c.args.row in
    let i : ℕ = c.loop-cell.cell-index in
    let at = cell h.In-loop-cell in
    let is = c.head.view_is ∙ head h.After-index-rows-cell at in
    let passed : IsPassed table c.args.slash c.loop-cell.queue.items (step table row i) = record {
      uncompleted = λ completed. c.if-head-slash.false (ap (λ (r : RowHead). r.accept) is ∙ completed);
      goes_on = inl (ap (λ (r : RowHead). has_bit r.fronts c.args.slash) (sym is) ∙ sym c.has_front.ensures ∙ c.if-has_front.true);
    } in
    record {
      walk = inv.walk;
      keeps = inv.keeps;
      passed = λ category low.
          ⊎_elim
          (λ same. subst (λ n. IsPassed table c.args.slash c.loop-cell.queue.items (step table row n)) (sym same) passed)
          (λ other. inv.passed category (omega arith))
          (cases_eq category i);
    }

pub add_target-requires-clause-row : goal.add_target-requires-clause-row
add_target-requires-clause-row c =
    let at = cell (goal.at.add_target-requires-clause-row c).In-loop-cell in
    omega (arith, at.is, at.within, c.loop-cell.invariant.walk.long)

pub loop-cell-preserved : goal.loop-cell-preserved
loop-cell-preserved c =
    let h = goal.at.loop-cell-preserved c in
    let inv = c.loop-cell.invariant in
    let table : Table = rows_of c.args.width c.args.rows.now c.args.cells.now [] in
    let slash : ℕ = c.args.slash in
    let queue : List ℕ = c.loop-cell.queue.items in
    let new : List ℕ = c.add_target.new.targets.items in
    let row : ℕ = c.args.row in
    let i : ℕ = c.loop-cell.cell-index in
    let at = cell h.In-loop-cell in
    let is = c.head.view_is ∙ head h.After-index-rows-cell at in
    let uncompleted = λ (completed : accept_of table (step table row i) ≡ slash + 2). c.if-head-slash.false (ap (λ (r : RowHead). r.accept) is ∙ completed) in
    let bit = ap (λ (r : RowHead). has_bit r.fronts slash) (sym is) ∙ sym c.has_front.ensures ∙ c.if-has_front.false in
    let adds : AddsTarget queue (step table row i) new = subst (λ n. AddsTarget queue n new) at.is c.in_ok-add_target.ensures.adds in
    record {
      walk = walk_on table slash c.loop-cell.seen.items c.add_target.new.seen.items queue new
          (step table row i) inv.walk c.in_ok-add_target.ensures.len c.in_ok-add_target.ensures.gathered adds
          (reached_on table slash row i c.requires.reached at.low at.within uncompleted bit);
      keeps = λ k short.
          let was = inv.keeps k short in
          let there = adds.keeps k was.0 in
          (there.0, there.1 ∙ was.1);
      passed = λ category low.
          ⊎_elim
          (λ same. subst (λ n. IsPassed table slash new (step table row n)) (sym same) (record { uncompleted = uncompleted; goes_on = inr adds.has }))
          (λ other. passed_more table slash queue new (step table row category) adds.keeps (inv.passed category (omega arith)))
          (cases_eq category i);
    }

pub returns : goal.returns
returns c =
    let inv = c.loop-cell.invariant in
    let long = steps_long c.args.width c.args.cells.now c.args.row (length c.args.rows.now) c.requires.steps.all c.requires.reached.within in
    record { walk = inv.walk; keeps = inv.keeps; passed = λ category low. inv.passed category (omega (arith, low, long, c.loop-cell-test.false)) }
