use Rattle.std.proofs.Common.{◌≡◌, sym, ap, ◌∙◌, subst, arith, rules}
use Rattle.rbbi_tree.specs.Trees.{joined, set_character, set_property, set_within}
use Rattle.rbbi_tree.specs.Values.{set_tree, set_item_tree}
use Rattle.rbbi_resolve.specs.Contexts.{value_of_name}
use Rattle.rbbi_resolve.specs.SetValues.{value_of_item}
use Rattle.rbbi_resolve.specs.inner.ClassValues.{IsClassValue}
use Rattle.rbbi_resolve.specs.Parts.{parts_of_part}
use Rattle.rbbi_resolve.specs.inner.Faults.{noted_parts}
use Rattle.rbbi_resolve.specs.inner.Contexts.{files_of, bounds_of, context_of}
use Rattle.rbbi_resolve.proofs.ItemTrees.{of_character, of_property, of_inner}
use Rattle.rbbi_resolve.proofs.Named.{within_noted}
use Rattle.rbbi_resolve.proofs.SetFolds.{folding_starts, folding_turn, folding_gives}
use Rattle.std.proofs.Common.{◌<◌, length, map}
use Rattle.rbbi_tree.specs.Trees.{parts_of}
use Rattle.rbbi_tree.specs.Values.{part_tree}
use Rattle.rbbi_resolve.proofs.SetLoops.{set_is}
use Rattle.rbbi_resolve.proofs.Weights.{size_of_set, size_of_parts, size_of_member, smaller_member}
use Rattle.rbbi_resolve.proofs.set_value.+sets.Goals as goal

pub find_set-loop-part-init : goal.find_set-loop-part-init
find_set-loop-part-init t c = folding_starts (files_of c.args.context.now) _ _ c.args.least.now _ c.empty.result c.empty.ensures

pub find_set-loop-part-preserved : goal.find_set-loop-part-preserved
find_set-loop-part-preserved t c =
    folding_turn (context_of c.args.context.now) (files_of c.args.context.now) (bounds_of c.args.context.now) c.args.least.now _ c.loop-part.value
    c.find_item.new.value c.join.new.left c.loop-part.least c.find_item.new.least
    c.deref-part-items.result.now c.loop-part.part-index c.part-item.result (omega arith) c.part-item.is c.loop-part.invariant
    (record { value = c.in_ok-find_item.ensures.value; noted = c.in_ok-find_item.ensures.noted }) c.in_ok-join.ensures

pub find_set-returns-clause-value : goal.find_set-returns-clause-value
find_set-returns-clause-value t c =
    (folding_gives (files_of c.args.context.now) (bounds_of c.args.context.now) (context_of c.args.context.now) c.args.least.now c.args.set.now
    c.deref-part-items.result.now c.loop-part.part-index c.loop-part.value c.add_sign.new.set c.loop-part.least
    c.deref-part-items.ensures.value (omega arith) c.loop-part.invariant (rw c.layout.ensures at (c.in_ok-add_sign.ensures (files_of c.args.context.now)))).0

pub find_set-returns-clause-noted : goal.find_set-returns-clause-noted
find_set-returns-clause-noted t c =
    (folding_gives (files_of c.args.context.now) (bounds_of c.args.context.now) (context_of c.args.context.now) c.args.least.now c.args.set.now
    c.deref-part-items.result.now c.loop-part.part-index c.loop-part.value c.add_sign.new.set c.loop-part.least
    c.deref-part-items.ensures.value (omega arith) c.loop-part.invariant (rw c.layout.ensures at (c.in_ok-add_sign.ensures (files_of c.args.context.now)))).1

pub find_item-returns-in_ok-find_character-in-Char-clause-value : goal.find_item-returns-in_ok-find_character-in-Char-clause-value
find_item-returns-in_ok-find_character-in-Char-clause-value t c =
    let context = c.args.context.now in
    let files = files_of context in
    let e : set_item_tree c.args.item.now ≡ set_character c.in-Char.c = let i = c.in-Char.is in ap set_item_tree i ∙ of_character c.in-Char.c in
    subst (λ i. IsClassValue files (bounds_of context) (value_of_item files (value_of_name (context_of context)) i) c.find_character.new.value) (sym e)
    (rw c.layout.ensures at (c.in_ok-find_character-in-Char.ensures files))

pub find_item-returns-in_ok-find_property-in-Prop-clause-noted : goal.find_item-returns-in_ok-find_property-in-Prop-clause-noted
find_item-returns-in_ok-find_property-in-Prop-clause-noted t c =
    let k = context_of c.args.context.now in
    let old = c.args.least.now in
    let e : set_item_tree c.args.item.now ≡ set_property c.in-Prop.negated c.in-Prop.name c.in-Prop.word = let i =
    c.in-Prop.is in ap set_item_tree i ∙ of_property c.in-Prop.negated c.in-Prop.name c.in-Prop.word in
    λ join. c.in_ok-find_property-in-Prop.ensures.noted ∙ ap (λ i. noted_parts k old (parts_of_part (joined c.args.place join i))) (sym e)

pub find_item-returns-in_ok-find_set-in-Set-clause-noted : goal.find_item-returns-in_ok-find_set-in-Set-clause-noted
find_item-returns-in_ok-find_set-in-Set-clause-noted t c =
    let k = context_of c.args.context.now in
    let old = c.args.least.now in
    let e : set_item_tree c.args.item.now ≡ set_within (set_tree c.in-Set.inner) = let i =
    c.in-Set.is in ap set_item_tree i ∙ of_inner c.in-Set.inner in
    λ join.
    c.in_ok-find_set-in-Set.ensures.noted
    ∙ within_noted k old c.args.place join (set_tree c.in-Set.inner)
    ∙ ap (λ i. noted_parts k old (parts_of_part (joined c.args.place join i))) (sym e)

pub find_set-find_item-requires : goal.find_set-find_item-requires
find_set-find_item-requires t c =
    let context = c.args.context.now in
    let files = files_of c.args.context.now in
    let l = c.loop-part in
    let xs = c.deref-part-items.result.now in
    let p = c.part-item.result in
    let inside : l.part-index < length xs = omega arith in
    let part = smaller_member xs l.part-index p inside c.part-item.is in
    let size = ap size_of_set (set_is c.args.set.now) in
    let own = ap (λ ps. size_of_parts (parts_of (map part_tree ps))) c.deref-part-items.ensures.value in
    let smaller : size_of_member (set_item_tree p.item) < size_of_set (set_tree c.args.set.now) = omega arith in
    search rules

pub find_item-find_set-requires : goal.find_item-find_set-requires
find_item-find_set-requires t c =
    let inner = c.in-Set.inner in
    let i : set_item_tree c.args.item.now ≡ set_within (set_tree inner) = let s = c.in-Set.is in ap set_item_tree s ∙ of_inner inner in
    let size = ap size_of_member i in
    let smaller : size_of_set (set_tree inner) < size_of_member (set_item_tree c.args.item.now) = omega arith in
    search rules
