use Rattle.std.proofs.Common.{◌≡◌, ◌<◌, length, get_or, refl, ◌∙◌, ap, subst, arith}
use Rattle.std.proofs.lemmas.List.{get_or_read}
use Rattle.rbbi_model.specs.Tables.{CategoryRange}
use Rattle.rbbi_model.specs.ValidTables.{IsWithin}
use Rattle.rbbi_model.proofs.Lists.{all_at}
use Rattle.rbbi_table.proofs.RangeLemmas.{no_range}
use Rattle.rbbi_canon.specs.inner.Numberings.{KeepsOrAdds}
use Rattle.rbbi_canon.proofs.Orders.{indexed_once}
use Rattle.rbbi_canon.proofs.Joining.{AreRangesSoFar, range_more, all_ranges}
use Rattle.rbbi_canon.proofs.categories.join_categories.Goals as goal

pub loop-range-preserved : goal.loop-range-preserved
loop-range-preserved c =
    let ranges = c.args.ranges.now in
    let found = c.in_ok-found.found.items in
    let met = c.place_of-in-loop-range.new.self in
    let h = c.loop-range.invariant in
    let range = c.range-item.result in
    let is : range ≡ get_or ranges c.loop-range.range-index no_range =
    get_or_read ranges c.loop-range.range-index range c.loop-range-test.true c.range-item.is no_range in
    let category = ap (λ (r : CategoryRange). r.category) c.range.view_is in
    let all = c.in_ok-found.ensures.all in
    let within = (all_at (IsWithin c.args.grid.now.width) ranges c.loop-range.range-index no_range c.loop-range-test.true c.requires.within).1 in
    let short : c.range.inside.cat < length found = omega (arith, category, ap (λ (r : CategoryRange). r.category) is, within, all) in
    let number : c.index-in-loop-range.result.now ≡ get_or found range.category 0 =
    get_or_read found c.range.inside.cat c.index-in-loop-range.result.now short c.index-in-loop-range.ensures 0 ∙ ap (λ n. get_or found n 0) category in
    let new : CategoryRange = record { start = c.range.inside.start; category = c.in_ok-cat.cat } in (
      range_more c.args.grid.now.width ranges found c.requires c.in_ok-found.ensures.all c.loop-range.range-index c.loop-range.met.order.items
          c.loop-range.joined.items h.0 range c.loop-range-test.true is met.order.items c.in_ok-cat.cat
          (subst (λ n. KeepsOrAdds c.loop-range.met.order.items n met.order.items) number c.in_ok-cat.ensures.order)
          (indexed_once met.order.items met.places.items met.indexed) c.in_ok-cat.ensures.place.0 (c.in_ok-cat.ensures.place.1 ∙ number) new
          c.add_range.new.ranges.items (ap (λ (r : CategoryRange). r.start) c.range.view_is) refl c.in_ok-add_range.ensures,
      c.in_ok-cat.ensures.count ∙ h.1,
    )

pub returns : goal.returns
returns c =
    let ranges = c.args.ranges.now in
    let found = c.in_ok-found.found.items in
    let met = c.loop-range.met in
    let end : c.loop-range.range-index ≡ length ranges = omega arith in
    all_ranges c.args.grid.now.width ranges found c.requires c.in_ok-found.ensures.all c.args.grid.now met.order.items c.loop-range.joined.items refl
    c.in_ok-found.ensures (indexed_once met.order.items met.places.items met.indexed)
    (subst (λ n. AreRangesSoFar ranges found n met.order.items c.loop-range.joined.items) end c.loop-range.invariant.0)
