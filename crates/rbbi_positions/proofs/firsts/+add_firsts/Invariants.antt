use Rattle.std.proofs.Common.{◌≡◌, ℕ, ◌+◌, ◌||◌, List, drop}
use Rattle.std.specs.Prelude.{map}
use Rattle.rbbi_model.specs.Ranges.{Range}
use Rattle.rbbi_model.specs.Spelling.{sequence_of, choice_of}
use Rattle.rbbi_model.specs.Rules.{leaf_count}
use Rattle.rbbi_resolve.specs.RuleTrees.{tree_of}
use Rattle.rbbi_bits.specs.BitRows.{row_bit}
use Rattle.rbbi_positions.specs.inner.Trees.{begins}
use Rattle.rbbi_positions.proofs.firsts.+add_firsts.Given as goal

abbrev pub invariant-loop-part : goal.invariant-loop-part
invariant-loop-part l = record {
  fits : (sets : List (List Range)) →
      l.start + leaf_count (sequence_of (map (tree_of sets) (drop l.part-index l.part-items))) ≡ l.first + leaf_count (tree_of sets l.tree);
  bits : (sets : List (List Range)) (position : ℕ) →
      (row_bit l.row position || begins (sequence_of (map (tree_of sets) (drop l.part-index l.part-items))) l.start position) ≡ (row_bit l.fn.row
      position || begins (tree_of sets l.tree) l.first position);
}

abbrev pub invariant-loop-part-2 : goal.invariant-loop-part-2
invariant-loop-part-2 l = record {
  fits : (sets : List (List Range)) →
      l.start + leaf_count (choice_of (map (tree_of sets) (drop l.part-index l.part-items))) ≡ l.first + leaf_count (tree_of sets l.tree);
  bits : (sets : List (List Range)) (position : ℕ) →
      (row_bit l.row position || begins (choice_of (map (tree_of sets) (drop l.part-index l.part-items))) l.start position) ≡ (row_bit l.fn.row
      position || begins (tree_of sets l.tree) l.first position);
}
