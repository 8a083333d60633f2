use Rattle.std.proofs.Common.{◌≡◌, List, drop}
use Rattle.std.specs.Prelude.{map}
use Rattle.rbbi_model.specs.Ranges.{Range}
use Rattle.rbbi_model.specs.Spelling.{sequence_of, choice_of}
use Rattle.rbbi_resolve.specs.RuleTrees.{tree_of}
use Rattle.rbbi_positions.specs.inner.Trees.{is_nullable}
use Rattle.rbbi_positions.proofs.empty.+is_empty.Given as goal

abbrev pub invariant-loop-part : goal.invariant-loop-part
invariant-loop-part l =
    (sets : List (List Range)) → is_nullable (tree_of sets l.tree) ≡ is_nullable (sequence_of (map (tree_of sets) (drop l.part-index l.part-items)))

abbrev pub invariant-loop-part-2 : goal.invariant-loop-part-2
invariant-loop-part-2 l =
    (sets : List (List Range)) → is_nullable (tree_of sets l.tree) ≡ is_nullable (choice_of (map (tree_of sets) (drop l.part-index l.part-items)))
