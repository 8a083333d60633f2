use Rattle.std.proofs.Common.{◌≡◌, ℕ, [], get_or, ap, ◌∙◌, arith}
use Rattle.std.proofs.lemmas.List.{get_or_read}
use Rattle.rbbi_model.specs.Tables.{RowHead, empty_head}
use Rattle.rbbi_table.specs.Parts.{rows_of}
use Rattle.rbbi_table.proofs.TargetLemmas.{add_open}
use Rattle.rbbi_table.proofs.safe.gather_targets.Goals as goal

pub loop-row-preserved : goal.loop-row-preserved
loop-row-preserved c =
    let inv = c.loop-row.invariant in
    let row : ℕ = c.loop-row.row in
    let read = get_or_read c.args.rows.now row c.index-rows-row.result c.loop-row-test.true c.index-rows-row.is empty_head in
    let accept : c.head.inside.accept ≡ (get_or c.args.rows.now row empty_head).accept = ap (λ (h : RowHead). h.accept) (c.head.view_is ∙ read) in
    record {
      long = c.in_ok-add_target.ensures.len ∙ inv.long;
      below = add_open (rows_of c.args.width c.args.rows.now c.args.cells.now []) c.args.category c.loop-row.targets.items c.add_target.new.targets.items row
          inv.below c.loop-row-test.true
          (λ none. omega (arith, none, c.loop-row.auto.row), omega (arith, accept, c.if-head-ge2.false)) c.in_ok-add_target.ensures.adds;
      gathered = c.in_ok-add_target.ensures.gathered;
    }
