use Rattle.std.proofs.Common.{◌≡◌, ℕ, List, ◌++◌, drop}
use Rattle.std.specs.Prelude.{map, flat_map}
use Rattle.rbbi_resolve.specs.RuleTrees.{numbers_of}
use Rattle.rbbi_positions.proofs.numbers.+add_numbers.Given as goal

abbrev pub invariant-loop-part : goal.invariant-loop-part
invariant-loop-part l =
    l.numbers.items ++ flat_map (λ (ns : List ℕ). ns) (map numbers_of (drop l.part-index l.part-items)) ≡ l.fn.numbers.items ++ numbers_of l.tree

abbrev pub invariant-loop-part-2 : goal.invariant-loop-part-2
invariant-loop-part-2 l =
    l.numbers.items ++ flat_map (λ (ns : List ℕ). ns) (map numbers_of (drop l.part-index l.part-items)) ≡ l.fn.numbers.items ++ numbers_of l.tree
