-- The sorted ranges are the given ones in another order, and each is joined in turn.
use Rattle.std.proofs.Common.{length, ap, ◌∙◌, arith, rules}
use Rattle.std.specs.List.{All}
use Rattle.std.specs.List.Sorted.{IsNonDecreasingBy}
use Rattle.std.proofs.lemmas.List.{take_all}
use Rattle.std.proofs.lemmas.List.Sorted.{All-permutation, IsNonDecreasingBy-from_sort_by_key}
use Rattle.rbbi_model.specs.Ranges.{Range}
use Rattle.rbbi_sets.specs.Covers.{covers}
use Rattle.rbbi_sets.specs.Rising.{IsRange}
use Rattle.rbbi_sets.proofs.Meanings.{same_members}
use Rattle.rbbi_sets.proofs.Sorting.{IsJoined-more, permuted_members}
use Rattle.rbbi_sets.proofs.set.CodeSet.from_ranges.Goals as goal

pub join_last-requires-clause-range : goal.join_last-requires-clause-range
join_last-requires-clause-range c =
    let sorted = c.sort_unstable_by_key.new.self.items in
    let all : All IsRange sorted = All-permutation IsRange c.args.ranges.items sorted c.sort_unstable_by_key.ensures.permutation c.requires in
    let items = c.deref-range-items.ensures.value in
    let i = c.loop-range.range-index in
    let here = rw items at c.range-item.is in
    let low = ap (λ (r : Range). r.low) (c.range.view_is ∙ here) in
    let high = ap (λ (r : Range). r.high) (c.range.view_is ∙ here) in
    omega (arith, low, high, (all i c.range-item.result (omega (arith, ap length items))).0)

pub join_last-requires-clause-code_points : goal.join_last-requires-clause-code_points
join_last-requires-clause-code_points c =
    let sorted = c.sort_unstable_by_key.new.self.items in
    let all : All IsRange sorted = All-permutation IsRange c.args.ranges.items sorted c.sort_unstable_by_key.ensures.permutation c.requires in
    let items = c.deref-range-items.ensures.value in
    let i = c.loop-range.range-index in
    let here = rw items at c.range-item.is in
    let high = ap (λ (r : Range). r.high) (c.range.view_is ∙ here) in
    omega (arith, high, (all i c.range-item.result (omega (arith, ap length items))).1)

pub loop-range-preserved : goal.loop-range-preserved
loop-range-preserved c =
    let sorted = c.sort_unstable_by_key.new.self.items in
    let up : IsNonDecreasingBy (λ (r : Range). r.low) sorted =
    IsNonDecreasingBy-from_sort_by_key (λ (r : Range). r.low) sorted c.sort_unstable_by_key.ensures.sorted (λ a r q k. search rules) in
    let items = c.deref-range-items.ensures.value in
    let low = ap (λ (r : Range). r.low) (c.range.view_is ∙ c.range-item.is) in
    let high = ap (λ (r : Range). r.high) (c.range.view_is ∙ c.range-item.is) in
    IsJoined-more c.deref-range-items.result.now c.loop-range.joined.items c.join_last.new.ranges.items c.loop-range.range-index c.range-item.result
    c.range.inside.low c.range.inside.high
    (rw items up) (omega arith) low high c.loop-range.invariant c.in_ok-join_last.ensures.joins

pub returns-clause-members : goal.returns-clause-members
returns-clause-members c = λ code.
    let sorted = c.sort_unstable_by_key.new.self.items in
    let items = c.deref-range-items.ensures.value in
    let whole = take_all c.loop-range.range-index c.deref-range-items.result.now (omega arith) ∙ items in
    let joined = same_members c.loop-range.joined.items sorted code (c.loop-range.invariant.members code ∙ ap (λ ranges. covers ranges code) whole) in
    let moved = permuted_members c.args.ranges.items sorted code c.sort_unstable_by_key.ensures.permutation in
    (λ h. moved.0 (joined.0 h), λ h. joined.1 (moved.1 h))
