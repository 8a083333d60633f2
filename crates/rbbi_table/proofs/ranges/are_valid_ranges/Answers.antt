use Rattle.std.proofs.Common.{◌≡◌, ℕ, ◌+◌, ◌≤◌, ◌↔◌, List, length, drop, get_or, ap, sym, ◌∙◌, subst, arith}
use Rattle.std.proofs.lemmas.List.{drop_more, get_or_read}
use Rattle.rbbi_model.specs.Tables.{CategoryRange}
use Rattle.rbbi_model.specs.ValidTables.{AreValidRanges}
use Rattle.rbbi_table.specs.inner.Ranges.{IsValidBehind}
use Rattle.rbbi_table.proofs.Truth.{refuted, granted, fails, some_items, item_is, items_end}
use Rattle.rbbi_table.proofs.RangeLemmas.{GoOn, no_range, valid_where_go_on}
use Rattle.rbbi_table.proofs.ranges.are_valid_ranges.Goals as goal

pub loop-range-init : goal.loop-range-init
loop-range-init c =
    let ranges : List CategoryRange = c.args.ranges.now in
    let one : 1 ≤ length ranges = some_items ranges c.is_empty.result c.is_empty.ensures c.if-is_empty.false in
    let first : c.index-ranges-0.result ≡ get_or ranges 0 no_range = get_or_read ranges 0 c.index-ranges-0.result (omega arith) c.index-ranges-0.is no_range in
    let start : (get_or ranges 0 no_range).start ≡ 0 = sym (ap (λ (r : CategoryRange). r.start) (c.previous.view_is ∙ first)) ∙ c.if-previous-ne0.false in
    let same : c.previous.inside.cat ≡ (get_or ranges 0 no_range).category = ap (λ (r : CategoryRange). r.category) (c.previous.view_is ∙ first) in
    subst (λ (r : CategoryRange). AreValidRanges c.args.categories ranges ↔ GoOn c.args.categories r (drop 1 ranges)) (sym first)
    (valid_where_go_on c.args.categories ranges (omega arith) (omega arith) one start (omega arith))

pub returns-then-not-goes_on : goal.returns-then-not-goes_on
returns-then-not-goes_on c =
    let ranges : List CategoryRange = c.args.ranges.now in
    let i : ℕ = c.loop-range.range-index in
    let item = item_is ranges i c.range-item.result no_range c.loop-range-test.true c.range-item.is in
    refuted (λ valid.
    let go = subst (λ (l : List CategoryRange). GoOn c.args.categories c.loop-range.previous l) (drop_more (drop 1 ranges) i no_range item.0)
    (c.loop-range.invariant.0 valid) in
    fails c.goes_on.result c.goes_on.ensures c.if-not-goes_on.true
    (subst (λ (r : CategoryRange). IsValidBehind c.args.categories c.loop-range.previous r) (sym item.1) go.0))

pub loop-range-preserved : goal.loop-range-preserved
loop-range-preserved c =
    let ranges : List CategoryRange = c.args.ranges.now in
    let i : ℕ = c.loop-range.range-index in
    let item = item_is ranges i c.range-item.result no_range c.loop-range-test.true c.range-item.is in
    let more = drop_more (drop 1 ranges) i no_range item.0 in (
      λ valid.
          let go = subst (λ (l : List CategoryRange). GoOn c.args.categories c.loop-range.previous l) more (c.loop-range.invariant.0 valid) in
          subst (λ (r : CategoryRange). GoOn c.args.categories r (drop (i + 1) (drop 1 ranges))) (sym item.1) go.1,
      λ go.
          let goes = subst (λ (r : CategoryRange). IsValidBehind c.args.categories c.loop-range.previous r) item.1
          (c.goes_on.ensures.0 c.if-not-goes_on.false) in
          let rest = subst (λ (r : CategoryRange). GoOn c.args.categories r (drop (i + 1) (drop 1 ranges))) item.1 go in
          c.loop-range.invariant.1 (subst (λ (l : List CategoryRange). GoOn c.args.categories c.loop-range.previous l) (sym more) (goes, rest)),
    )

pub returns : goal.returns
returns c =
    let ranges : List CategoryRange = c.args.ranges.now in
    granted (c.loop-range.invariant.1 (subst (λ (l : List CategoryRange). GoOn c.args.categories c.loop-range.previous l)
    (sym (items_end ranges c.loop-range.range-index c.loop-range-test.false)) tt))
