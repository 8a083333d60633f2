use Rattle.std.proofs.Common.{◌≡◌, ◌<◌, ◌+◌, length, sym, ap, subst, arith}
use Rattle.std.proofs.lemmas.Result.{err_from_is_err_and}
use Rattle.rbbi_dfa.specs.inner.Determinizing.{AddsCells}
use Rattle.rbbi_dfa.specs.inner.PositionRows.{PositionRows}
use Rattle.rbbi_dfa.proofs.Lead.{IsLeading, reached_next, some_next, kept_or_added, one_too_many, empty_cell, set_cell, cells_more, begin_refl, begin_trans}
use Rattle.rbbi_dfa.proofs.determinize.lead_on.Goals as goal
use Rattle.rbbi_dfa.proofs.determinize.lead_on.Goals.{then-is_read+in_ok-number_of, else-is_read}

pub returns-in_err-number_of-clause-refused : goal.returns-in_err-number_of-clause-refused
returns-in_err-number_of-clause-refused c = λ refused.
    let next = c.step.new.next in
    let categories = ap (λ (r : PositionRows). r.categories) c.rows.view_is in
    let within : c.loop-category.category < c.args.rows.now.categories = omega (arith, c.loop-category-test.true, categories) in
    let reached = reached_next c.args.rows.now c.args.candidates.now next c.loop-category.category c.requires.candidates within c.step.ensures.step in
    let p = err_from_is_err_and c.from_residual.result c.from_residual.ensures.1 in
    let told = p.1 in
    let gave = p.2 in
    let full = c.in_err-number_of.ensures.refused (cc) in
    let some = some_next c.args.rows.now c.args.candidates.now next c.loop-category.category c.step.ensures.step (c.is_read.ensures.some c.if-is_read.true) in
    one_too_many c.args.rows.now c.number_of.new.sets next
    (kept_or_added c.args.rows.now c.loop-category.sets c.number_of.new.sets next c.loop-category.invariant.reached c.in_err-number_of.ensures.sets
    c.step.ensures.row reached some).0 full.0 full.1 c.step.ensures.row reached some

pub overflow_add-cell : goal.overflow_add-cell
overflow_add-cell c = omega (arith, c.in_ok-number_of.ensures.few)

pub overflow_cast-cell : goal.overflow_cast-cell
overflow_cast-cell c =
    elim c.if-is_read.branch [
      | then-is_read+in_ok-number_of w ↦ omega (arith, w.cell-is, w.in_ok-number_of.ensures.few)
      | else-is_read w ↦ omega (arith, w.cell-is)
    ]

pub loop-category-preserved : goal.loop-category-preserved
loop-category-preserved c =
    let rows = c.args.rows.now in
    let before = c.args.sets.now in
    let here = c.loop-category.sets in
    let candidates = c.args.candidates.now in
    let old = c.args.cells.now.items in
    let cells = c.loop-category.cells.items in
    let category = c.loop-category.category in
    let categories = ap (λ (r : PositionRows). r.categories) c.rows.view_is in
    let within : category < rows.categories = omega (arith, c.loop-category-test.true, categories) in
    let wide : length c.if-is_read.next ≡ rows.width = omega (arith, c.loop-category.invariant.wide, c.if-is_read.auto.next) in
    let pushed = c.in_ok-push.ensures.items in
    elim c.if-is_read.branch [
      | then-is_read+in_ok-number_of w ↦
          let next = w.step.new.next in
          let new = w.number_of.new.sets in
          let reached = reached_next rows candidates next category c.requires.candidates within w.step.ensures.step in
          let some = some_next rows candidates next category w.step.ensures.step (c.is_read.ensures.some w.if-is_read.true) in
          let more = kept_or_added rows here new next c.loop-category.invariant.reached w.in_ok-number_of.ensures.sets w.step.ensures.row reached some in
          let cell = set_cell rows new candidates next category w.in_ok-number_of.field-0 c.if-is_read.cell w.cell-is w.in_ok-number_of.ensures.number.0
          w.in_ok-number_of.ensures.number.1 w.step.ensures.step in
          subst (λ s. IsLeading rows before s candidates old c.push.new.self.items c.if-is_read.next (category + 1)) (sym w.sets-is)
          (record {
            reached = more.0;
            kept = begin_trans rows before here new c.loop-category.invariant.kept more.1;
            adds = subst (λ l. AddsCells rows new candidates old l (category + 1)) (sym pushed)
                (cells_more rows here new candidates old cells category c.if-is_read.cell c.loop-category.invariant.adds more.1 cell);
            wide = wide;
          })
      | else-is_read w ↦
          let cell = empty_cell rows here candidates category c.if-is_read.cell w.cell-is (c.is_read.ensures.none w.if-is_read.false) in
          subst (λ s. IsLeading rows before s candidates old c.push.new.self.items c.if-is_read.next (category + 1)) (sym w.sets-is)
          (record {
            reached = c.loop-category.invariant.reached;
            kept = c.loop-category.invariant.kept;
            adds = subst (λ l. AddsCells rows here candidates old l (category + 1)) (sym pushed)
                (cells_more rows here here candidates old cells category c.if-is_read.cell c.loop-category.invariant.adds (begin_refl rows here) cell);
            wide = wide;
          })
    ]
