use Rattle.std.proofs.Common.{arith}
use Rattle.rbbi_resolve.proofs.Collecting.{atom_collected, collecting_starts, seqs_turn, seqs_end, items_turn, items_end}
use Rattle.std.proofs.Common.{◌≡◌, [], sym, ap, ◌∙◌, subst}
use Rattle.rbbi_tree.specs.Trees.{AtomTree, placed, character, quoted, property, set, group}
use Rattle.rbbi_tree.specs.declared.syntax.Item.{Item}
use Rattle.rbbi_tree.specs.declared.syntax.Atom.{Atom}
use Rattle.rbbi_tree.specs.declared.syntax.Atom.TheViews.{out-Item}
use Rattle.rbbi_tree.specs.Values.{item_tree, atom_tree, set_tree, expr_tree, item_tree_out}
use Rattle.rbbi_resolve.specs.SetValues.{value_of_property}
use Rattle.rbbi_resolve.specs.Parts.{Outside, parts_of_item, parts_of_set, parts_of_expr}
use Rattle.rbbi_resolve.specs.inner.Covered.{Collects}
use Rattle.rbbi_resolve.proofs.ItemTrees.{atom_of_character, atom_of_quoted, atom_of_property, atom_of_set, atom_of_group}
use Rattle.rbbi_resolve.proofs.Covering.{based_respects, set_covered}
use Rattle.rbbi_resolve.proofs.SetRuns.{character_respects, word_respects}
use Rattle.rbbi_resolve.proofs.collect.+collect.Goals as goal

pub collect_expr-loop-seq-init : goal.collect_expr-loop-seq-init
collect_expr-loop-seq-init t c = collecting_starts c.args.table.now c.args.collection.now _ c.requires

pub collect_expr-loop-seq-preserved : goal.collect_expr-loop-seq-preserved
collect_expr-loop-seq-preserved t c =
    seqs_turn c.args.table.now c.args.collection.now c.loop-seq.collection c.collect_seq.new.collection _
    c.deref-seq-items.result.now c.loop-seq.seq-index c.seq-item.result (omega arith) c.seq-item.is
    c.loop-seq.invariant c.in_ok-collect_seq.ensures

pub collect_expr-returns : goal.collect_expr-returns
collect_expr-returns t c =
    seqs_end c.args.table.now c.args.collection.now c.loop-seq.collection c.args.expr.now c.deref-seq-items.result.now
    c.loop-seq.seq-index c.deref-seq-items.ensures.value (omega arith) c.loop-seq.invariant

pub collect_seq-loop-item-init : goal.collect_seq-loop-item-init
collect_seq-loop-item-init t c = collecting_starts c.args.table.now c.args.collection.now _ c.requires

pub collect_seq-loop-item-preserved : goal.collect_seq-loop-item-preserved
collect_seq-loop-item-preserved t c =
    items_turn c.args.table.now c.args.collection.now c.loop-item.collection c.collect_item.new.collection _
    c.deref-item-items.result.now c.loop-item.item-index c.item-item.result (omega arith) c.item-item.is
    c.loop-item.invariant c.in_ok-collect_item.ensures

pub collect_seq-returns : goal.collect_seq-returns
collect_seq-returns t c =
    items_end c.args.table.now c.args.collection.now c.loop-item.collection c.args.seq.now c.deref-item-items.result.now
    c.loop-item.item-index c.deref-item-items.ensures.value (omega arith) c.loop-item.invariant

-- the tree of an item with such an atom
item_is : (i : Item) (a : Atom) (tree : AtomTree) → (out-Item i).atom ≡ a → atom_tree a ≡ tree →
    item_tree i ≡ placed (out-Item i).place tree (out-Item i).quant
item_is i a tree is same = item_tree_out i ∙ ap (λ x. placed (out-Item i).place x (out-Item i).quant) (ap atom_tree is ∙ same)

pub collect_item-returns-in_ok-add_character-in-Char : goal.collect_item-returns-in_ok-add_character-in-Char
collect_item-returns-in_ok-add_character-in-Char t c =
    let files = c.args.table.now in
    let now = c.args.collection.now in
    let after = c.add_character.new.self in
    let i = c.args.item.now in
    let r = c.in-Char in
    let done = c.in_ok-add_character-in-Char.ensures in
    subst (λ x. Collects files now after (parts_of_item x)) (sym (item_is i _ (character r.c r.bare) r.is (atom_of_character r.c r.bare)))
    (atom_collected files now after [] (Outside i.place (character r.c r.bare)) done.keeps (done.kept files c.requires)
    (λ stand are. (record { each = tt }, character_respects files stand r.c after.bases.items are (λ order. done.added))))

pub collect_item-returns-in_ok-add_word-in-Quoted : goal.collect_item-returns-in_ok-add_word-in-Quoted
collect_item-returns-in_ok-add_word-in-Quoted t c =
    let files = c.args.table.now in
    let now = c.args.collection.now in
    let after = c.add_word.new.self in
    let i = c.args.item.now in
    let r = c.in-Quoted in
    let done = c.in_ok-add_word-in-Quoted.ensures in
    subst (λ x. Collects files now after (parts_of_item x)) (sym (item_is i _ (quoted r.word) r.is (atom_of_quoted r.word)))
    (atom_collected files now after [] (Outside i.place (quoted r.word)) done.keeps (done.kept files c.requires)
    (λ stand are. (record { each = tt }, word_respects files stand after.bases.items are r.word done.added)))

pub collect_item-returns-in_ok-add_property-in-Prop : goal.collect_item-returns-in_ok-add_property-in-Prop
collect_item-returns-in_ok-add_property-in-Prop t c =
    let files = c.args.table.now in
    let now = c.args.collection.now in
    let after = c.add_property.new.self in
    let i = c.args.item.now in
    let r = c.in-Prop in
    let done = c.in_ok-add_property-in-Prop.ensures in
    subst (λ x. Collects files now after (parts_of_item x))
    (sym (item_is i _ (property r.negated r.name r.value) r.is (atom_of_property r.negated r.name r.value)))
    (atom_collected files now after [] (Outside i.place (property r.negated r.name r.value)) done.keeps done.kept
    (λ stand are. (
      record { each = tt },
      based_respects files stand after.bases.items (value_of_property files r.negated r.name r.value) done.based.set are
          done.based.value_is done.based.own,
    )))

pub collect_item-returns-in_ok-collect_set-in-Set : goal.collect_item-returns-in_ok-collect_set-in-Set
collect_item-returns-in_ok-collect_set-in-Set t c =
    let files = c.args.table.now in
    let now = c.args.collection.now in
    let after = c.collect_set.new.collection in
    let i = c.args.item.now in
    let s = set_tree c.in-Set.set in
    let done = c.in_ok-collect_set-in-Set.ensures in
    subst (λ x. Collects files now after (parts_of_item x)) (sym (item_is i _ (set s) c.in-Set.is (atom_of_set c.in-Set.set)))
    (atom_collected files now after (parts_of_set s) (Outside i.place (set s)) done.keeps done.kept
    (λ stand are. (record { each = set_covered files stand s }, done.covers stand are)))

pub collect_item-returns-in_ok-collect_expr-in-Group : goal.collect_item-returns-in_ok-collect_expr-in-Group
collect_item-returns-in_ok-collect_expr-in-Group t c =
    let files = c.args.table.now in
    let now = c.args.collection.now in
    let after = c.collect_expr.new.collection in
    let i = c.args.item.now in
    let inner = expr_tree c.in-Group.inner in
    let done = c.in_ok-collect_expr-in-Group.ensures in
    subst (λ x. Collects files now after (parts_of_item x)) (sym (item_is i _ (group inner) c.in-Group.is (atom_of_group c.in-Group.inner)))
    (atom_collected files now after (parts_of_expr inner) (Outside i.place (group inner)) done.keeps done.kept
    (λ stand are. (done.covers stand are, tt)))
