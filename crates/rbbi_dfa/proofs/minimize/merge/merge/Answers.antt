use Rattle.std.proofs.Common.{◌<◌, ◌≤◌, List, ℕ, slice_index, length, ap, sym, subst, arith}
use Rattle.rbbi_model.specs.Tables.{Table}
use Rattle.rbbi_dfa.proofs.Merging.{IsMerged-from_parts, lists_few, number_within, numbered_as, places_as, used_as, heads_as}
use Rattle.rbbi_dfa.proofs.minimize.merge.merge.Goals as goal

pub merged_heads-requires-clause-small : goal.merged_heads-requires-clause-small
merged_heads-requires-clause-small c =
    let automaton = c.args.automaton.now in
    let partition = c.args.partition.now in
    let of_classes = places_as _ _ _ _ _ _ c.deref.ensures.value c.deref-2.ensures.value c.in_ok-class_places.ensures in
    let used = used_as _ _ _ c.deref-3.ensures.value c.in_ok-used.ensures.used in
    let numbered = numbered_as _ _ _ _ _ _ c.deref-5.ensures.value c.deref-4.ensures.value c.in_ok-numbers.ensures in
    let few = lists_few automaton partition.classes.items partition.firsts.items _ c.args.ranks.now.places.items _ c.in_ok-used.used.items _ _
    c.requires.determined c.requires.minimized.partition c.requires.ranks of_classes used numbered in
    λ class h.
    let class_first : class < length partition.firsts.items = omega (arith, ap (λ (xs : List ℕ). length xs) c.deref-6.ensures.value, of_classes.many) in
    let within = number_within automaton partition.classes.items partition.firsts.items _ c.args.ranks.now.places.items _ c.in_ok-used.used.items _ _
    c.requires.determined c.requires.minimized.partition c.requires.ranks of_classes used numbered class class_first in
    subst (λ (xs : List ℕ). slice_index xs (slice_index c.deref-6.result.now class) ≤ 65535) (sym c.deref-7.ensures.value)
    (subst (λ (xs : List ℕ). slice_index c.in_ok-numbers.numbers.items (slice_index xs class) ≤ 65535) (sym c.deref-6.ensures.value)
    (omega (arith, within, few, c.requires.minimized.few)))

pub returns : goal.returns
returns c =
    let automaton = c.args.automaton.now in
    let partition = c.args.partition.now in
    let of_classes = places_as _ _ _ _ _ _ c.deref.ensures.value c.deref-2.ensures.value c.in_ok-class_places.ensures in
    let used = used_as _ _ _ c.deref-3.ensures.value c.in_ok-used.ensures.used in
    let numbered = numbered_as _ _ _ _ _ _ c.deref-5.ensures.value c.deref-4.ensures.value c.in_ok-numbers.ensures in
    let heads = heads_as _ _ _ _ _ _ _ c.deref-6.ensures.value c.deref-7.ensures.value c.in_ok-heads.ensures in
    IsMerged-from_parts automaton partition.classes.items partition.firsts.items _ c.args.ranks.now.places.items _ c.in_ok-used.used.items _ _
    c.requires.determined c.requires.minimized.partition c.requires.ranks of_classes used numbered
    _ _ _ _ (ap (λ (table : Table). table.categories) c.automaton.view_is) (ap (λ (table : Table). table.slashes) c.automaton.view_is) heads
    c.in_ok-cells.ensures
