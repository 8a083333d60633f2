use Rattle.std.proofs.Common.{◌≡◌, ℕ, List, length, ap, ◌∙◌, inl, inr, ⊎_elim, arith}
use Rattle.std.proofs.lemmas.List.{get_or_read}
use Rattle.rbbi_model.specs.Tables.{RowHead, empty_head}
use Rattle.rbbi_table.proofs.MoveLemmas.{steps_of, steps_long}
use Rattle.rbbi_table.proofs.ShortLemmas.{one_more_row}
use Rattle.rbbi_table.proofs.short.write_rows.Goals as goal

pub loop-row-preserved : goal.loop-row-preserved
loop-row-preserved c =
    let rows : List RowHead = c.args.rows.now in
    let cells : List ℕ = c.args.cells.now in
    let row : ℕ = c.loop-row.row in
    let read = get_or_read rows row c.index-rows-row.result c.loop-row-test.true c.index-rows-row.is empty_head in
    let long : length (steps_of c.args.width cells row) ≡ c.args.width =
    steps_long c.args.width cells row (length rows) c.requires.next.all c.loop-row-test.true in
    one_more_row c.args.width rows cells c.loop-row.moves c.write_row.new.moves c.write_kinds.new.kinds row c.loop-row-test.true c.write_kinds.ensures
    c.args.stride c.requires.stride
    record {
      list_is = c.write_row.ensures.list ∙ ap (λ (r : RowHead). r.list) (c.head.view_is ∙ read);
      each = λ k short. c.write_row.ensures.each k (omega (arith, short, long));
      others = λ i apart. c.write_row.ensures.others i (⊎_elim (λ before. inl before) (λ behind. inr (omega (arith, behind, long))) apart);
    }
    c.loop-row.invariant
