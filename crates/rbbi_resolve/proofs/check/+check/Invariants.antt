use Rattle.std.proofs.Common.{map, drop}
use Rattle.rbbi_tree.specs.Trees.{expr_of, seq_of}
use Rattle.rbbi_tree.specs.Values.{seq_tree, item_tree}
use Rattle.rbbi_resolve.specs.inner.Contexts.{context_of}
use Rattle.rbbi_resolve.specs.inner.OwnLeaves.{leaves_of_expr, leaves_of_seq}
use Rattle.rbbi_resolve.proofs.Adding.{IsAdding}
use Rattle.rbbi_resolve.proofs.Counting.{CountingExpr, CountingSeq}
use Rattle.rbbi_tree.specs.Values.{expr_tree, atom_tree}
use Rattle.rbbi_resolve.proofs.Weights.{size_of_expr, size_of_seq, size_of_item, size_of_atom}
use Rattle.rbbi_resolve.proofs.check.+check.Given as goal

abbrev pub decreases-check_expr : goal.decreases-check_expr
decreases-check_expr l = size_of_expr (expr_tree l.expr.now)

abbrev pub decreases-check_seq : goal.decreases-check_seq
decreases-check_seq l = size_of_seq (seq_tree l.seq.now)

abbrev pub decreases-check_item : goal.decreases-check_item
decreases-check_item l = size_of_item (item_tree l.item.now)

abbrev pub decreases-check_atom : goal.decreases-check_atom
decreases-check_atom l = size_of_atom (atom_tree l.atom.now)

abbrev pub invariant-check_expr-loop-seq : goal.invariant-check_expr-loop-seq
invariant-check_expr-loop-seq l =
    let k = context_of l.context in
    let whole = expr_of (map seq_tree l.seq-items) in
    let left = expr_of (map seq_tree (drop l.seq-index l.seq-items)) in
    CountingExpr k l.initial.least whole l.whole l.least left
    × IsAdding l.context l.initial.leaves.rows.items (leaves_of_expr k whole) l.leaves.rows.items (leaves_of_expr k left)

abbrev pub invariant-check_seq-loop-item : goal.invariant-check_seq-loop-item
invariant-check_seq-loop-item l =
    let k = context_of l.context in
    let whole = seq_of (map item_tree l.item-items) in
    let left = seq_of (map item_tree (drop l.item-index l.item-items)) in
    CountingSeq k l.initial.least whole l.whole l.least left
    × IsAdding l.context l.initial.leaves.rows.items (leaves_of_seq k whole) l.leaves.rows.items (leaves_of_seq k left)
