use Rattle.std.proofs.Common.{◌<◌, length, map, arith, rules, ap, sym, subst}
use Rattle.rbbi_resolve.proofs.SetLoops.{set_is}
use Rattle.rbbi_resolve.proofs.Weights.{size_of_set, size_of_part, size_of_parts, smaller_part}
use Rattle.std.specs.List.{All}
use Rattle.rbbi_tree.specs.Trees.{set_character, set_range, set_name, set_within, set_property}
use Rattle.rbbi_tree.specs.Trees.{parts_of}
use Rattle.rbbi_tree.specs.Values.{set_tree, part_tree}
use Rattle.std.proofs.lemmas.List.Elements.{All-nil}
use Rattle.rbbi_sets.specs.Rising.{IsRange}
use Rattle.rbbi_resolve.specs.SetValues.{value_of_property}
use Rattle.rbbi_resolve.specs.inner.Covered.{CollectsPart}
use Rattle.rbbi_resolve.proofs.ItemTrees.{of_character, of_range, of_name, of_inner, of_property}
use Rattle.rbbi_resolve.proofs.Collecting.{part_is}
use Rattle.rbbi_resolve.proofs.Covering.{based_respects}
use Rattle.rbbi_resolve.proofs.SetRuns.{set_starts, literal_turn, other_turn, set_ends, item_collected, character_respects, range_respects}
use Rattle.rbbi_resolve.proofs.collect.+collect_sets.Goals as goal
use Rattle.rbbi_resolve.proofs.collect.+collect_sets.Goals.{collect_set-in-Some+in_ok-push, collect_set-in_default+in_ok-add_run+in_ok-collect_part}

pub collect_set-loop-part-init : goal.collect_set-loop-part-init
collect_set-loop-part-init t c =
    set_starts c.args.table.now c.args.collection.now _ c.new-run.result.items c.new-run.ensures.items
    (subst (All IsRange) (sym c.new-run.ensures.items) (All-nil IsRange)) c.requires

pub collect_set-collect_part-requires : goal.collect_set-collect_part-requires
collect_set-collect_part-requires t c =
    let l = c.loop-part in
    let xs = c.deref-part-items.result.now in
    let p = c.part-item.result in
    let inside : l.part-index < length xs = omega arith in
    let part = smaller_part xs l.part-index p inside c.part-item.is in
    let size = ap size_of_set (set_is c.args.set.now) in
    let own = ap (λ ps. size_of_parts (parts_of (map part_tree ps))) c.deref-part-items.ensures.value in
    let smaller : size_of_part (part_tree p) < size_of_set (set_tree c.args.set.now) = omega arith in
    let kept = c.in_ok-add_run.ensures.kept c.args.table.now l.invariant.kept in
    search rules

pub collect_part-collect_set-requires : goal.collect_part-collect_set-requires
collect_part-collect_set-requires t c =
    let inner = c.in-Set.inner in
    let p = c.args.part.now in
    let size = ap size_of_part (part_is p _ (set_within (set_tree inner)) c.in-Set.is (of_inner inner)) in
    let smaller : size_of_set (set_tree inner) < size_of_part (part_tree p) = omega arith in
    search rules

pub collect_set-loop-part-preserved : goal.collect_set-loop-part-preserved
collect_set-loop-part-preserved t c =
    let l = c.loop-part in
    let files = c.args.table.now in
    let start = c.args.collection.now in
    let xs = c.deref-part-items.result.now in
    let p = c.part-item.result in
    elim c.match-literal.branch [
      | collect_set-in-Some+in_ok-push w ↦
          rw (w.collection-is, w.run-is)
          (literal_turn files start l.collection (parts_of (map part_tree xs)) xs l.part-index p l.run.items c.loop-part-test.true c.part-item.is
          l.invariant w.in-Some.range w.push.new.self.items w.in_ok-push.ensures.items w.in-Some.ensures.range w.in-Some.ensures.literal)
      | collect_set-in_default+in_ok-add_run+in_ok-collect_part w ↦
          rw (w.collection-is, w.run-is)
          (other_turn files start l.collection (parts_of (map part_tree xs)) xs l.part-index p l.run.items c.loop-part-test.true c.part-item.is
          l.invariant w.add_run.new.self w.collect_part.new.collection w.new-run-in_default.result.items
          w.in_ok-add_run.ensures.keeps w.in_ok-add_run.ensures.added w.new-run-in_default.ensures.items
          (subst (All IsRange) (sym w.new-run-in_default.ensures.items) (All-nil IsRange)) w.in_ok-collect_part.ensures)
    ]

pub collect_set-returns : goal.collect_set-returns
collect_set-returns t c =
    let l = c.loop-part in
    set_ends c.args.table.now c.args.collection.now l.collection c.add_run-2.new.self c.args.set.now c.deref-part-items.result.now
    l.part-index l.run.items c.deref-part-items.ensures.value (omega arith) l.invariant c.in_ok-add_run-2.ensures.keeps c.in_ok-add_run-2.ensures.added
    (c.in_ok-add_run-2.ensures.kept c.args.table.now)

pub collect_part-returns-in-Name : goal.collect_part-returns-in-Name
collect_part-returns-in-Name t c =
    let files = c.args.table.now in
    let now = c.args.collection.now in
    let p = c.args.part.now in
    let word = c.in-Name.field-0 in
    subst (CollectsPart files now now) (sym (part_is p _ (set_name word) c.in-Name.is (of_name word)))
    (item_collected files now now p.place p.join (set_name word) (λ base has. has) c.requires (λ stand are named respect. respect.each word))

pub collect_part-returns-in_ok-collect_set-in-Set : goal.collect_part-returns-in_ok-collect_set-in-Set
collect_part-returns-in_ok-collect_set-in-Set t c =
    let files = c.args.table.now in
    let now = c.args.collection.now in
    let after = c.collect_set.new.collection in
    let p = c.args.part.now in
    let inner = set_tree c.in-Set.inner in
    let done = c.in_ok-collect_set-in-Set.ensures in
    subst (CollectsPart files now after) (sym (part_is p _ (set_within inner) c.in-Set.is (of_inner c.in-Set.inner)))
    (item_collected files now after p.place p.join (set_within inner) done.keeps done.kept (λ stand are named respect. done.covers stand are named respect))

pub collect_part-returns-in_ok-add_property-in-Prop : goal.collect_part-returns-in_ok-add_property-in-Prop
collect_part-returns-in_ok-add_property-in-Prop t c =
    let files = c.args.table.now in
    let now = c.args.collection.now in
    let after = c.add_property.new.self in
    let p = c.args.part.now in
    let r = c.in-Prop in
    let done = c.in_ok-add_property-in-Prop.ensures in
    subst (CollectsPart files now after)
    (sym (part_is p _ (set_property r.negated r.name r.value) r.is (of_property r.negated r.name r.value)))
    (item_collected files now after p.place p.join (set_property r.negated r.name r.value) done.keeps done.kept
    (λ stand are named respect. based_respects files stand after.bases.items (value_of_property files r.negated r.name r.value) done.based.set are
    done.based.value_is done.based.own))

pub collect_part-returns-in_ok-add_range-in-Char : goal.collect_part-returns-in_ok-add_range-in-Char
collect_part-returns-in_ok-add_range-in-Char t c =
    let files = c.args.table.now in
    let p = c.args.part.now in
    let ch = c.in-Char.c in
    subst (CollectsPart files c.args.collection.now c.add_range.new.self) (sym (part_is p _ (set_character ch) c.in-Char.is (of_character ch)))
    (item_collected files c.args.collection.now c.add_range.new.self p.place p.join (set_character ch) c.in_ok-add_range-in-Char.ensures.keeps
    (c.in_ok-add_range-in-Char.ensures.kept files c.requires)
    (λ stand are named respect. character_respects files stand ch c.add_range.new.self.bases.items are c.in_ok-add_range-in-Char.ensures.added))

pub collect_part-returns-in_ok-add_range-in-Range : goal.collect_part-returns-in_ok-add_range-in-Range
collect_part-returns-in_ok-add_range-in-Range t c =
    let files = c.args.table.now in
    let p = c.args.part.now in
    let r = c.in-Range in
    let after = c.add_range-in-Range.new.self in
    subst (CollectsPart files c.args.collection.now after) (sym (part_is p _ (set_range r.first r.last) r.is (of_range r.first r.last)))
    (item_collected files c.args.collection.now after p.place p.join (set_range r.first r.last) c.in_ok-add_range-in-Range.ensures.keeps
    (c.in_ok-add_range-in-Range.ensures.kept files c.requires)
    (λ stand are named respect. range_respects files stand r.first r.last after.bases.items are c.in_ok-add_range-in-Range.ensures.added))
