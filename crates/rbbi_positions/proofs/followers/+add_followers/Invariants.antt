use Rattle.std.proofs.Common.{◌≡◌, ℕ, ◌+◌, ◌*◌, ◌<◌, ◌≤◌, ◌||◌, List, drop, take, length}
use Rattle.std.specs.Prelude.{map}
use Rattle.rbbi_model.specs.Ranges.{Range}
use Rattle.rbbi_model.specs.Spelling.{sequence_of, choice_of}
use Rattle.rbbi_model.specs.Rules.{leaf_count}
use Rattle.rbbi_resolve.specs.RuleTrees.{tree_of}
use Rattle.rbbi_bits.specs.BitRows.{row_bit}
use Rattle.rbbi_positions.specs.inner.Rows.{in_row}
use Rattle.rbbi_positions.specs.inner.Trees.{goes}
use Rattle.rbbi_positions.proofs.followers.+add_followers.Given as goal

abbrev pub invariant-loop-i : goal.invariant-loop-i
invariant-loop-i l = record {
  many : length l.row.items ≡ length l.next;
  within : l.i ≤ length l.parts.items.items;
  at : (sets : List (List Range)) → l.start ≡ l.first + leaf_count (sequence_of (map (tree_of sets) (take l.i l.parts.items.items)));
  fits : (sets : List (List Range)) → leaf_count (sequence_of (map (tree_of sets) (take l.i l.parts.items.items))) ≤ leaf_count (tree_of sets l.tree);
  rows : (sets : List (List Range)) (position other : ℕ) → other < 64 * length l.next →
      (in_row (length l.next) l.followers position other || goes (sequence_of (map (tree_of sets) (take l.i l.parts.items.items))) l.first position other
      (row_bit l.row.items other))
      ≡ (in_row (length l.next) l.fn.followers position other || goes (tree_of sets l.tree) l.first position other (row_bit l.next other));
}

abbrev pub invariant-loop-part : goal.invariant-loop-part
invariant-loop-part l = record {
  fits : (sets : List (List Range)) →
      l.start + leaf_count (choice_of (map (tree_of sets) (drop l.part-index l.part-items))) ≡ l.first + leaf_count (tree_of sets l.tree);
  rows : (sets : List (List Range)) (position other : ℕ) → other < 64 * length l.next →
      (in_row (length l.next) l.followers position other || goes (choice_of (map (tree_of sets) (drop l.part-index l.part-items))) l.start position other
      (row_bit l.next other))
      ≡ (in_row (length l.next) l.fn.followers position other || goes (tree_of sets l.tree) l.first position other (row_bit l.next other));
}
