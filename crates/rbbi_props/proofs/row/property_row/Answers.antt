-- Fewer than two fields, and two or more.
use Rattle.std.proofs.Common.{◌≡◌, ℕ, ◌+◌, ◌-◌, ◌<◌, List, eqb, length, take, drop, ap, sym, ◌∙◌, arith}
use Rattle.std.specs.List.{before_first, after_first, position_or_len, slice_split}
use Rattle.std.proofs.lemmas.List.{take_rest}
use Rattle.std.proofs.lemmas.Result.{IfOk-weaker}
use Rattle.rbbi_text.specs.LineParts.{trim}
use Rattle.rbbi_props.specs.RowLines.{property_row, row_of_fields, row_with, range_of, last_part}
use Rattle.rbbi_props.proofs.Fields.{row_of_fields-one, row_of_fields-more}
use Rattle.rbbi_props.proofs.row.property_row.Goals as goal

pub returns-then-end-fields : goal.returns-then-end-fields
returns-then-end-fields c =
    sym (rw (← c.before_byte-fields.ensures.bytes) (row_of_fields-one c.before_byte-fields.result.now (omega (arith, c.place_or_len-end.ensures.place))))

pub returns : goal.returns
returns c =
    let fields = c.before_byte-fields.result.now in
    let i = c.place_or_len-end.result in
    let place = c.place_or_len-end.ensures.place in
    let found : position_or_len (λ b. eqb b 59) fields < length fields = omega (arith, place, c.place_or_len-end.ensures.bound) in
    let tail : take (length fields - (i + 1)) (drop (i + 1) fields) ≡ after_first (λ b. eqb b 59) fields =
    take_rest fields (i + 1) ∙ ap (λ n. drop (n + 1) fields) place in
    let range : c.range_of-range.result ≡ range_of (trim (before_first (λ b. eqb b 59) fields)) =
    c.range_of-range.ensures.value ∙ ap range_of (c.trim.ensures ∙ ap (λ n. trim (take n fields)) place) in
    let value : c.trim-value.result.now ≡ trim (last_part (slice_split (λ b. eqb b 59) (after_first (λ b. eqb b 59) fields))) =
    c.trim-value.ensures ∙ ap trim (c.after_last.ensures ∙ ap (λ (r : List ℕ). last_part (slice_split (λ b. eqb b 59) r)) tail) in
    let whole : row_with c.range_of-range.result c.trim-value.result.now ≡ property_row c.args.line.now =
    ap (λ o. row_with o c.trim-value.result.now) range
    ∙ ap (λ v. row_with (range_of (trim (before_first (λ b. eqb b 59) fields))) v) value
    ∙ sym (row_of_fields-more fields found)
    ∙ ap (λ (f : List ℕ). row_of_fields (slice_split (λ b. eqb b 59) f)) c.before_byte-fields.ensures.bytes in
    IfOk-weaker c.row_with.result _ _ (λ row h. h ∙ whole) c.row_with.ensures
