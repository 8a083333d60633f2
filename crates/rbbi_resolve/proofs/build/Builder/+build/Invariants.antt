use Rattle.std.proofs.Common.{◌+◌, ◌*◌, map, drop}
use Rattle.rbbi_tree.specs.Trees.{expr_of, seq_of}
use Rattle.rbbi_tree.specs.Values.{statement_trees, expr_tree, seq_tree, item_tree, atom_tree}
use Rattle.rbbi_resolve.specs.Expressions.{meaning_of_seq, meaning_of_item, height_of_expr, height_of_seq, height_of_item, height_of_atom}
use Rattle.rbbi_resolve.specs.inner.Contexts.{context_of, files_of}
use Rattle.rbbi_resolve.specs.inner.OwnLeaves.{leaves_of_expr, leaves_of_seq}
use Rattle.rbbi_resolve.proofs.Heights.{assigned_height}
use Rattle.rbbi_resolve.proofs.Building.{AreBuilding}
use Rattle.rbbi_resolve.proofs.build.Builder.+build.Given as goal

-- The heights of rules are at most 256, so the measures are at most 5 * 256 + 4: so deep the walk goes at most.
abbrev pub decreases-add_definition : goal.decreases-add_definition
decreases-add_definition l = 5 * assigned_height (files_of l.context.now) (statement_trees l.context.now.statements.now) l.context.now.limit + 4

abbrev pub decreases-add_expr : goal.decreases-add_expr
decreases-add_expr l = 5 * height_of_expr (context_of l.context.now) (expr_tree l.expr.now) + 3

abbrev pub decreases-add_seq : goal.decreases-add_seq
decreases-add_seq l = 5 * height_of_seq (context_of l.context.now) (seq_tree l.seq.now) + 2

abbrev pub decreases-add_item : goal.decreases-add_item
decreases-add_item l = 5 * height_of_item (context_of l.context.now) (item_tree l.item.now) + 1

abbrev pub decreases-add_atom : goal.decreases-add_atom
decreases-add_atom l = 5 * height_of_atom (context_of l.context.now) (atom_tree l.atom.now)

abbrev pub invariant-add_expr-loop-seq : goal.invariant-add_expr-loop-seq
invariant-add_expr-loop-seq l =
    let k = context_of l.context in
    let left = map seq_tree (drop l.seq-index l.seq-items) in
    AreBuilding l.context l.leaves l.initial.self l.initial.next (map (meaning_of_seq k) (map seq_tree l.seq-items))
    (leaves_of_expr k (expr_of (map seq_tree l.seq-items))) l.initial.trees.items l.self l.next l.trees.items (map (meaning_of_seq k) left)
    (leaves_of_expr k (expr_of left))

abbrev pub invariant-add_seq-loop-item : goal.invariant-add_seq-loop-item
invariant-add_seq-loop-item l =
    let k = context_of l.context in
    let left = map item_tree (drop l.item-index l.item-items) in
    AreBuilding l.context l.leaves l.initial.self l.initial.next (map (meaning_of_item k) (map item_tree l.item-items))
    (leaves_of_seq k (seq_of (map item_tree l.item-items))) l.initial.trees.items l.self l.next l.trees.items (map (meaning_of_item k) left)
    (leaves_of_seq k (seq_of left))
