use Rattle.std.proofs.Common.{map, drop}
use Rattle.rbbi_tree.specs.Trees.{expr_of, seq_of}
use Rattle.rbbi_tree.specs.Values.{seq_tree, item_tree}
use Rattle.rbbi_resolve.specs.Parts.{parts_of_expr, parts_of_seq}
use Rattle.rbbi_resolve.proofs.Collecting.{IsCollecting}
use Rattle.rbbi_resolve.proofs.collect.+collect.Given as goal

abbrev pub invariant-collect_expr-loop-seq : goal.invariant-collect_expr-loop-seq
invariant-collect_expr-loop-seq l =
    IsCollecting l.table l.initial.collection l.collection (parts_of_expr (expr_of (map seq_tree l.seq-items)))
    (parts_of_expr (expr_of (map seq_tree (drop l.seq-index l.seq-items))))

abbrev pub invariant-collect_seq-loop-item : goal.invariant-collect_seq-loop-item
invariant-collect_seq-loop-item l =
    IsCollecting l.table l.initial.collection l.collection (parts_of_seq (seq_of (map item_tree l.item-items)))
    (parts_of_seq (seq_of (map item_tree (drop l.item-index l.item-items))))
