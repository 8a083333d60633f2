use Rattle.std.proofs.Common.{◌≡◌, ℕ, ◌+◌, ◌≤◌, ◌||◌, List, length, drop, take}
use Rattle.std.specs.Prelude.{map}
use Rattle.rbbi_model.specs.Ranges.{Range}
use Rattle.rbbi_model.specs.Spelling.{sequence_of, choice_of}
use Rattle.rbbi_model.specs.Rules.{leaf_count}
use Rattle.rbbi_resolve.specs.RuleTrees.{tree_of}
use Rattle.rbbi_bits.specs.BitRows.{row_bit}
use Rattle.rbbi_positions.specs.inner.Trees.{ends}
use Rattle.rbbi_positions.proofs.lasts.+add_lasts.Given as goal

abbrev pub invariant-loop-part : goal.invariant-loop-part
invariant-loop-part l = record {
  fits : (sets : List (List Range)) →
      l.start + leaf_count (choice_of (map (tree_of sets) (drop l.part-index l.part-items))) ≡ l.first + leaf_count (tree_of sets l.tree);
  bits : (sets : List (List Range)) (position : ℕ) →
      (row_bit l.row position || ends (choice_of (map (tree_of sets) (drop l.part-index l.part-items))) l.start position) ≡
      (row_bit l.fn.row position || ends (tree_of sets l.tree) l.first position);
}

abbrev pub invariant-loop-i : goal.invariant-loop-i
invariant-loop-i l = record {
  within : l.i ≤ length l.parts.items.items;
  at : (sets : List (List Range)) → l.start ≡ l.first + leaf_count (sequence_of (map (tree_of sets) (take l.i l.parts.items.items)));
  fits : (sets : List (List Range)) → leaf_count (sequence_of (map (tree_of sets) (take l.i l.parts.items.items))) ≤ leaf_count (tree_of sets l.tree);
  bits : (sets : List (List Range)) (position : ℕ) →
      (row_bit l.row position || ends (sequence_of (map (tree_of sets) (take l.i l.parts.items.items))) l.first position) ≡
      (row_bit l.fn.row position || ends (tree_of sets l.tree) l.first position);
}
