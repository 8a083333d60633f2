use Rattle.std.proofs.Common.{◌≡◌, ◌<◌, List, length, get_or, ap, sym, ◌∙◌, subst, ⊎_elim, arith}
use Rattle.std.proofs.lemmas.Bool.{cases_eq}
use Rattle.std.proofs.lemmas.List.{get_or_read}
use Rattle.rbbi_model.specs.Tables.{Table, RowHead, empty_head}
use Rattle.rbbi_model.specs.ValidTables.{IsPlain}
use Rattle.rbbi_table.specs.Parts.{table_of}
use Rattle.rbbi_table.proofs.Truth.{refuted, granted, fails}
use Rattle.rbbi_table.proofs.RowLemmas.{IsEntry, entry_of, is_entry, all_valid}
use Rattle.rbbi_table.proofs.rows.are_valid_rows.Goals as goal

pub returns-then-not-is_valid_row : goal.returns-then-not-is_valid_row
returns-then-not-is_valid_row c =
    let table : Table = table_of c.args.parts.now in
    let same = entry_of table c.as_slice-rows.result.now c.as_slice-cells.result.now c.len-lists.result c.loop-row.row c.as_slice-rows.ensures
    c.as_slice-cells.ensures c.len-lists.ensures in
    let within : c.loop-row.row < length table.rows = omega (arith, c.loop-row-test.true, ap (λ (l : List RowHead). length l) c.as_slice-rows.ensures) in
    refuted (λ valid. fails c.is_valid_row.result c.is_valid_row.ensures c.if-not-is_valid_row.true
    (same.1 (is_entry table c.requires valid c.loop-row.row within)))

pub loop-row-preserved : goal.loop-row-preserved
loop-row-preserved c = λ row low.
    let table : Table = table_of c.args.parts.now in
    let same = entry_of table c.as_slice-rows.result.now c.as_slice-cells.result.now c.len-lists.result c.loop-row.row c.as_slice-rows.ensures
    c.as_slice-cells.ensures c.len-lists.ensures in
    ⊎_elim
    (λ is. subst (λ r. IsEntry table r) (sym is) (same.0 (c.is_valid_row.ensures.0 c.if-not-is_valid_row.false)))
    (λ other. c.loop-row.invariant row (omega arith))
    (cases_eq row c.loop-row.row)

pub returns : goal.returns
returns c =
    let table : Table = table_of c.args.parts.now in
    let long : length c.as_slice-rows.result.now ≡ length table.rows = ap (λ (l : List RowHead). length l) c.as_slice-rows.ensures in
    let first = get_or_read c.as_slice-rows.result.now 0 c.index-rows-0.result (omega arith) c.index-rows-0.is empty_head ∙
    ap (λ (l : List RowHead). get_or l 0 empty_head) c.as_slice-rows.ensures in
    let second = get_or_read c.as_slice-rows.result.now 1 c.index-rows-1.result (omega arith) c.index-rows-1.is empty_head ∙
    ap (λ (l : List RowHead). get_or l 1 empty_head) c.as_slice-rows.ensures in
    granted (all_valid table c.requires (omega (arith, long)) (omega (arith, long)) (omega arith)
    (subst (λ (h : RowHead). IsPlain h) first (c.is_plain.ensures.0 c.if-not-is_plain.false))
    (subst (λ (h : RowHead). IsPlain h) second (c.is_plain-else-not-is_plain.ensures.0 c.if-not-is_plain-2.false))
    (λ row short. c.loop-row.invariant row (omega (arith, short, long, c.loop-row-test.false))))
