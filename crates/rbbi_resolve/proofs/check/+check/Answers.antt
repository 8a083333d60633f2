use Rattle.std.proofs.Common.{◌≡◌, ℕ, ◌+◌, ◌<◌, Bool, nat_lt, length, map, if◌then◌else◌, Option, List, false, true, [], ◌∷◌, refl, sym, ap, ◌∙◌}
use Rattle.std.proofs.Common.{subst, arith, rules}
use Rattle.std.proofs.lemmas.List.{drop_all}
use Rattle.rbbi_tree.specs.Trees.{AtomTree, placed, property, set, group, expr_of, seq_of}
use Rattle.rbbi_tree.specs.Values.{expr_tree, seq_tree, item_tree, atom_tree, set_tree, item_tree_out}
use Rattle.rbbi_tree.specs.declared.syntax.Quant.TheVariants.{Once}
use Rattle.rbbi_classes.specs.Classes.{ClassBits}
use Rattle.rbbi_resolve.specs.declared.context.Context.{Context}
use Rattle.rbbi_resolve.specs.Expressions.{meaning_of_item, height_of_item, meaning_of_atom, height_of_atom}
use Rattle.rbbi_resolve.specs.Parts.{Outside, parts_of_item, parts_of_expr}
use Rattle.rbbi_resolve.specs.inner.Faults.{noted_parts}
use Rattle.rbbi_resolve.specs.inner.Summaries.{Sums, Summarizes}
use Rattle.rbbi_resolve.specs.inner.Contexts.{context_of, files_of, stand_of, AddsRows}
use Rattle.rbbi_resolve.specs.inner.Covered.{IsCovered, AreCovered}
use Rattle.rbbi_resolve.specs.inner.OwnLeaves.{leaves_of_expr, leaves_of_seq, leaves_of_item, leaves_of_atom}
use Rattle.rbbi_resolve.proofs.Noting.{noted_parts_of_append}
use Rattle.rbbi_resolve.proofs.ItemTrees.{atom_of_property, atom_of_set, atom_of_group}
use Rattle.rbbi_resolve.specs.SetValues.{value_of_set, value_of_property}
use Rattle.rbbi_resolve.specs.Contexts.{value_of_name}
use Rattle.rbbi_resolve.proofs.Kept.{files_stay}
use Rattle.rbbi_resolve.proofs.Adding.{IsAdding, no_rows, adding_turn}
use Rattle.rbbi_resolve.proofs.Counting.{expr_turn, seq_turn, expr_gives, seq_gives, repeated_sums, expr_by_items, seq_by_items, exprs_left, seqs_left}
use Rattle.rbbi_resolve.proofs.Weights.{size_of_expr, size_of_seq, size_of_item, size_of_atom, smaller_seq, smaller_item, smaller_atom}
use Rattle.rbbi_resolve.proofs.Covering.{covered_seq, covered_item, covered_atom, covered_alone, covered_left}
use Rattle.rbbi_resolve.proofs.check.+check.Goals as goal

pub check_expr-loop-seq-init : goal.check_expr-loop-seq-init
check_expr-loop-seq-init t c = (
  record {
    leaf_number = 0;
    height_number = 0;
    empty_so_far = false;
    sums = c.flat-whole.ensures;
    all_leaves = omega arith;
    all_heights = search rules;
    all_empty = refl;
    noted = refl;
  },
  record { adds = λ after x. x },
)

pub check_expr-loop-seq-preserved : goal.check_expr-loop-seq-preserved
check_expr-loop-seq-preserved t c =
    let context = c.args.context.now in
    let k = context_of context in
    let l = c.loop-seq in
    let xs = c.deref-seq-items.result.now in
    let p = c.seq-item.result in
    let left = exprs_left xs l.seq-index p (omega arith) c.seq-item.is in (
      expr_turn k c.args.least.now _ l.whole c.in_ok-part.part c.or-whole.result l.least c.check_seq.new.least xs l.seq-index p
          (omega arith) c.seq-item.is l.invariant.0 (record { noted = c.in_ok-part.ensures.noted; counts = c.in_ok-part.ensures.counts })
          c.or-whole.ensures,
      adding_turn context c.args.leaves.now.rows.items (leaves_of_expr k (expr_of (map seq_tree xs))) l.leaves.rows.items c.check_seq.new.leaves.rows.items
          (leaves_of_seq k (seq_tree p)) _
          (subst (λ x. IsAdding context c.args.leaves.now.rows.items (leaves_of_expr k (expr_of (map seq_tree xs))) l.leaves.rows.items
          (leaves_of_expr k x)) left l.invariant.1) c.in_ok-part.ensures.rows,
    )

pub check_expr-returns-clause-noted : goal.check_expr-returns-clause-noted
check_expr-returns-clause-noted t c =
    let len : c.len.result ≡ length c.deref-seq-items.result.now = search rules in
    (expr_gives (context_of c.args.context.now) c.args.least.now c.loop-seq.whole c.raised.result c.loop-seq.least c.args.expr.now
    c.deref-seq-items.result.now c.loop-seq.seq-index c.deref-seq-items.ensures.value (omega arith) c.loop-seq.invariant.0
    (subst (λ n. (a h : ℕ) (b : Bool) → Sums c.loop-seq.whole a h b → Sums c.raised.result a (h + (if nat_lt 1 n then 1 else 0)) b) len c.raised.ensures)).1

pub check_expr-returns-clause-counts : goal.check_expr-returns-clause-counts
check_expr-returns-clause-counts t c =
    let len : c.len.result ≡ length c.deref-seq-items.result.now = search rules in
    (expr_gives (context_of c.args.context.now) c.args.least.now c.loop-seq.whole c.raised.result c.loop-seq.least c.args.expr.now
    c.deref-seq-items.result.now c.loop-seq.seq-index c.deref-seq-items.ensures.value (omega arith) c.loop-seq.invariant.0
    (subst (λ n. (a h : ℕ) (b : Bool) → Sums c.loop-seq.whole a h b → Sums c.raised.result a (h + (if nat_lt 1 n then 1 else 0)) b) len c.raised.ensures)).0

pub check_expr-returns-clause-rows : goal.check_expr-returns-clause-rows
check_expr-returns-clause-rows t c =
    let context = c.args.context.now in
    let k = context_of context in
    let l = c.loop-seq in
    let xs = c.deref-seq-items.result.now in
    let none = drop_all l.seq-index xs (omega arith) in
    subst (λ x. AddsRows context (leaves_of_expr k x) c.args.leaves.now.rows.items l.leaves.rows.items) (sym (expr_by_items c.args.expr.now _
    c.deref-seq-items.ensures.value))
    (l.invariant.1.adds l.leaves.rows.items (subst (λ ys. AddsRows context (leaves_of_expr k (expr_of (map seq_tree ys))) l.leaves.rows.items
    l.leaves.rows.items) (sym none) (no_rows context l.leaves.rows.items)))

pub check_expr-check_seq-requires : goal.check_expr-check_seq-requires
check_expr-check_seq-requires t c =
    let context = c.args.context.now in
    let l = c.loop-seq in
    let xs = c.deref-seq-items.result.now in
    let p = c.seq-item.result in
    let inside : l.seq-index < length xs = omega arith in
    let part = smaller_seq xs l.seq-index p inside c.seq-item.is in
    let size = ap size_of_expr (expr_by_items c.args.expr.now _ c.deref-seq-items.ensures.value) in
    let smaller : size_of_seq (seq_tree p) < size_of_expr (expr_tree c.args.expr.now) = omega arith in
    let covered = covered_seq (files_of context) (stand_of context) c.args.expr.now xs l.seq-index p c.requires.covered c.deref-seq-items.ensures.value
    c.seq-item.is inside in
    search rules

pub check_seq-loop-item-init : goal.check_seq-loop-item-init
check_seq-loop-item-init t c = (
  record {
    leaf_number = 0;
    height_number = 0;
    empty_so_far = true;
    sums = c.flat-whole.ensures;
    all_leaves = omega arith;
    all_heights = search rules;
    all_empty = refl;
    noted = refl;
  },
  record { adds = λ after x. x },
)

pub check_seq-loop-item-preserved : goal.check_seq-loop-item-preserved
check_seq-loop-item-preserved t c =
    let context = c.args.context.now in
    let k = context_of context in
    let l = c.loop-item in
    let xs = c.deref-item-items.result.now in
    let p = c.item-item.result in
    let left = seqs_left xs l.item-index p (omega arith) c.item-item.is in (
      seq_turn k c.args.least.now _ l.whole c.in_ok-part.part c.then-whole.result l.least c.check_item.new.least xs l.item-index p
          (omega arith) c.item-item.is l.invariant.0 (record { noted = c.in_ok-part.ensures.noted; counts = c.in_ok-part.ensures.counts })
          c.then-whole.ensures,
      adding_turn context c.args.leaves.now.rows.items (leaves_of_seq k (seq_of (map item_tree xs))) l.leaves.rows.items c.check_item.new.leaves.rows.items
          (leaves_of_item k (item_tree p)) _
          (subst (λ x. IsAdding context c.args.leaves.now.rows.items (leaves_of_seq k (seq_of (map item_tree xs))) l.leaves.rows.items
          (leaves_of_seq k x)) left l.invariant.1) c.in_ok-part.ensures.rows,
    )

pub check_seq-returns-clause-noted : goal.check_seq-returns-clause-noted
check_seq-returns-clause-noted t c =
    let len : c.len.result ≡ length c.deref-item-items.result.now = search rules in
    (seq_gives (context_of c.args.context.now) c.args.least.now c.loop-item.whole c.raised.result c.loop-item.least c.args.seq.now
    c.deref-item-items.result.now c.loop-item.item-index c.deref-item-items.ensures.value (omega arith) c.loop-item.invariant.0
    (subst (λ n. (a h : ℕ) (b : Bool) → Sums c.loop-item.whole a h b → Sums c.raised.result a (h + (if nat_lt 1 n then 1 else 0)) b) len c.raised.ensures)).1

pub check_seq-returns-clause-counts : goal.check_seq-returns-clause-counts
check_seq-returns-clause-counts t c =
    let len : c.len.result ≡ length c.deref-item-items.result.now = search rules in
    (seq_gives (context_of c.args.context.now) c.args.least.now c.loop-item.whole c.raised.result c.loop-item.least c.args.seq.now
    c.deref-item-items.result.now c.loop-item.item-index c.deref-item-items.ensures.value (omega arith) c.loop-item.invariant.0
    (subst (λ n. (a h : ℕ) (b : Bool) → Sums c.loop-item.whole a h b → Sums c.raised.result a (h + (if nat_lt 1 n then 1 else 0)) b) len c.raised.ensures)).0

pub check_seq-returns-clause-rows : goal.check_seq-returns-clause-rows
check_seq-returns-clause-rows t c =
    let context = c.args.context.now in
    let k = context_of context in
    let l = c.loop-item in
    let xs = c.deref-item-items.result.now in
    let none = drop_all l.item-index xs (omega arith) in
    subst (λ x. AddsRows context (leaves_of_seq k x) c.args.leaves.now.rows.items l.leaves.rows.items) (sym (seq_by_items c.args.seq.now _
    c.deref-item-items.ensures.value))
    (l.invariant.1.adds l.leaves.rows.items (subst (λ ys. AddsRows context (leaves_of_seq k (seq_of (map item_tree ys))) l.leaves.rows.items
    l.leaves.rows.items) (sym none) (no_rows context l.leaves.rows.items)))

pub check_seq-check_item-requires : goal.check_seq-check_item-requires
check_seq-check_item-requires t c =
    let context = c.args.context.now in
    let l = c.loop-item in
    let xs = c.deref-item-items.result.now in
    let p = c.item-item.result in
    let inside : l.item-index < length xs = omega arith in
    let part = smaller_item xs l.item-index p inside c.item-item.is in
    let size = ap size_of_seq (seq_by_items c.args.seq.now _ c.deref-item-items.ensures.value) in
    let smaller : size_of_item (item_tree p) < size_of_seq (seq_tree c.args.seq.now) = omega arith in
    let covered = covered_item (files_of context) (stand_of context) c.args.seq.now xs l.item-index p c.requires.covered c.deref-item-items.ensures.value
    c.item-item.is inside in
    search rules

pub check_item-returns-clause-noted : goal.check_item-returns-clause-noted
check_item-returns-clause-noted t c =
    c.in_ok-atom.ensures.noted c.args.item.now.quant
    ∙ ap (λ i. noted_parts (context_of c.args.context.now) c.args.least.now (parts_of_item i)) (sym (item_tree_out c.args.item.now))

pub check_item-returns-clause-counts : goal.check_item-returns-clause-counts
check_item-returns-clause-counts t c =
    let k = context_of c.args.context.now in
    subst (λ i. Summarizes c.repeated.result (meaning_of_item k i) (height_of_item k i)) (sym (item_tree_out c.args.item.now))
    (repeated_sums c.args.item.now.quant (meaning_of_atom k (atom_tree c.args.item.now.atom)) _ c.repeated.result
    (c.repeated.ensures _ _ _ c.in_ok-atom.ensures.counts))

pub check_item-returns-clause-rows : goal.check_item-returns-clause-rows
check_item-returns-clause-rows t c =
    subst (λ i. AddsRows c.args.context.now (leaves_of_item (context_of c.args.context.now) i) c.args.leaves.now.rows.items
    c.check_atom.new.leaves.rows.items) (sym (item_tree_out c.args.item.now)) c.in_ok-atom.ensures.rows

pub check_item-check_atom-requires : goal.check_item-check_atom-requires
check_item-check_atom-requires t c =
    let context = c.args.context.now in
    let smaller = smaller_atom c.args.item.now in
    let covered = covered_atom (files_of context) (stand_of context) c.args.item.now c.requires.covered in
    search rules

-- what an atom of a kind gives
atom_rows : (context : Context) (a : AtomTree) (tree : AtomTree) (before after : List (Option ClassBits)) → a ≡ tree →
    AddsRows context (leaves_of_atom (context_of context) tree) before after → AddsRows context (leaves_of_atom (context_of context) a) before after
atom_rows context a tree before after e rows = subst (λ x. AddsRows context (leaves_of_atom (context_of context) x) before after) (sym e) rows

atom_covered : (context : Context) (place : ℕ) (a tree : AtomTree) → a ≡ tree →
    AreCovered (files_of context) (stand_of context) (parts_of_item (placed place a Once)) →
    IsCovered (files_of context) (stand_of context) (Outside place tree)
atom_covered context place a tree e covered =
    covered_alone (files_of context) (stand_of context) place tree
    (subst (λ x. AreCovered (files_of context) (stand_of context) (parts_of_item (placed place x Once))) e covered)

pub check_atom-check_expr-requires : goal.check_atom-check_expr-requires
check_atom-check_expr-requires t c =
    let files = files_of c.args.context.now in
    let stand = stand_of c.args.context.now in
    let inner = expr_tree c.in-Group.inner in
    let e : atom_tree c.args.atom.now ≡ group inner = let i = c.in-Group.is in ap atom_tree i ∙ atom_of_group c.in-Group.inner in
    let size = ap size_of_atom e in
    let smaller : size_of_expr inner < size_of_atom (atom_tree c.args.atom.now) = omega arith in
    let covered : AreCovered files stand (parts_of_expr inner) =
    covered_left files stand (parts_of_expr inner) (Outside c.args.place (group inner) ∷ [])
    (subst (λ a. AreCovered files stand (parts_of_item (placed c.args.place a Once))) e c.requires.covered) in
    search rules

pub check_atom-check_set-requires-clause-covered : goal.check_atom-check_set-requires-clause-covered
check_atom-check_set-requires-clause-covered t c =
    atom_covered c.args.context.now c.args.place (atom_tree c.args.atom.now) (set (set_tree c.in-Set.set))
    (let i = c.in-Set.is in ap atom_tree i ∙ atom_of_set c.in-Set.set) c.requires.covered

pub check_atom-returns-in_ok-whole-in-Group-clause-noted : goal.check_atom-returns-in_ok-whole-in-Group-clause-noted
check_atom-returns-in_ok-whole-in-Group-clause-noted t c =
    let k = context_of c.args.context.now in
    let e : atom_tree c.args.atom.now ≡ group (expr_tree c.in-Group.inner) = let i = c.in-Group.is in ap atom_tree i ∙ atom_of_group c.in-Group.inner in
    λ quant.
    c.in_ok-whole-in-Group.ensures.noted
    ∙ sym (noted_parts_of_append k c.args.least.now (parts_of_expr (expr_tree c.in-Group.inner))
    (Outside c.args.place (group (expr_tree c.in-Group.inner)) ∷ []))
    ∙ ap (λ a. noted_parts k c.args.least.now (parts_of_item (placed c.args.place a quant))) (sym e)

pub check_atom-returns-in_ok-whole-in-Group-clause-counts : goal.check_atom-returns-in_ok-whole-in-Group-clause-counts
check_atom-returns-in_ok-whole-in-Group-clause-counts t c =
    let k = context_of c.args.context.now in
    let e : atom_tree c.args.atom.now ≡ group (expr_tree c.in-Group.inner) = let i = c.in-Group.is in ap atom_tree i ∙ atom_of_group c.in-Group.inner in
    subst (λ a. Summarizes c.higher.result (meaning_of_atom k a) (height_of_atom k a)) (sym e) (c.higher.ensures _ _ _ c.in_ok-whole-in-Group.ensures.counts)

pub check_atom-returns-in_ok-check_property-in-Prop-clause-rows : goal.check_atom-returns-in_ok-check_property-in-Prop-clause-rows
check_atom-returns-in_ok-check_property-in-Prop-clause-rows t c =
    let context = c.args.context.now in
    let files = files_of context in
    let p = c.in-Prop in
    let e : atom_tree c.args.atom.now ≡ property p.negated p.name p.value = let i = p.is in ap atom_tree i ∙ atom_of_property p.negated p.name p.value in
    let old = c.args.leaves.now.rows.items in
    let new = c.check_property.new.leaves.rows.items in
    atom_rows context (atom_tree c.args.atom.now) _ old new e
    (subst (λ f. AddsRows context (value_of_property f p.negated p.name p.value ∷ []) old new) (sym (files_stay files _ _))
    c.in_ok-check_property-in-Prop.ensures.rows)

pub check_atom-returns-in_ok-check_set-in-Set-clause-rows : goal.check_atom-returns-in_ok-check_set-in-Set-clause-rows
check_atom-returns-in_ok-check_set-in-Set-clause-rows t c =
    let context = c.args.context.now in
    let files = files_of context in
    let named = value_of_name (context_of context) in
    let s = set_tree c.in-Set.set in
    let e : atom_tree c.args.atom.now ≡ set s = let i = c.in-Set.is in ap atom_tree i ∙ atom_of_set c.in-Set.set in
    let old = c.args.leaves.now.rows.items in
    let new = c.check_set.new.leaves.rows.items in
    atom_rows context (atom_tree c.args.atom.now) _ old new e
    (subst (λ f. AddsRows context (value_of_set f named s ∷ []) old new) (sym (files_stay files _ _)) c.in_ok-check_set-in-Set.ensures.rows)
