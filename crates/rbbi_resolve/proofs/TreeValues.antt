-- The trees and the numbers of the leaves of trees with parts.
use Rattle.std.proofs.Common.{◌≡◌, ℕ, List, [], ◌∷◌, ◌++◌, map, refl, ap, sym, ◌∙◌}
use Rattle.std.specs.List.{flat_map}
use Rattle.rbbi_resolve.specs.declared.rules.Tree.{Tree}
use Rattle.rbbi_resolve.specs.declared.rules.Tree as tree
use Rattle.rbbi_resolve.specs.declared.rules.Trees.{Trees}
use Rattle.rbbi_resolve.specs.declared.rules.Tree.TheVariants as variants
use Rattle.rbbi_resolve.specs.declared.rules.Tree.TheOpen.{Tree-F}
use Rattle.rbbi_resolve.specs.declared.rules.Tree.TheViews.{out-Trees}
use Rattle.rbbi_resolve.specs.declared.rules.Tree.TheFolds.{fold-roll-Tree}
use Rattle.rbbi_model.specs.Ranges.{Range}
use Rattle.rbbi_model.specs.Spelling as spelling
use Rattle.rbbi_model.specs.Spelling.{sequence_of, choice_of}
use Rattle.rbbi_resolve.specs.RuleTrees.{tree_of, tree_step, trees_step, trees_of_out, numbers_of, numbers_step, numbers_of_parts_step, numbers_of_parts_out}

flat_of_map : (ts : List Tree) → flat_map (λ (numbers : List ℕ). numbers) (map numbers_of ts) ≡ flat_map numbers_of ts
flat_of_map [] = refl
flat_of_map (t ∷ ts) = ap (λ ns. numbers_of t ++ ns) (flat_of_map ts)

pub numbers_of_choice : (parts : Trees) → numbers_of (tree.Alt parts) ≡ flat_map numbers_of (out-Trees parts).items.items
numbers_of_choice parts =
    ap numbers_of (sym (variants.rolls-Alt parts)) ∙ fold-roll-Tree (List ℕ) (List ℕ) numbers_step numbers_of_parts_step (Tree-F.Alt parts)
    ∙ numbers_of_parts_out parts ∙ flat_of_map (out-Trees parts).items.items

pub numbers_of_sequence : (parts : Trees) → numbers_of (tree.Seq parts) ≡ flat_map numbers_of (out-Trees parts).items.items
numbers_of_sequence parts =
    ap numbers_of (sym (variants.rolls-Seq parts)) ∙ fold-roll-Tree (List ℕ) (List ℕ) numbers_step numbers_of_parts_step (Tree-F.Seq parts)
    ∙ numbers_of_parts_out parts ∙ flat_of_map (out-Trees parts).items.items

pub tree_of_choice : (sets : List (List Range)) (parts : Trees) → tree_of sets (tree.Alt parts) ≡ choice_of (map (tree_of sets) (out-Trees parts).items.items)
tree_of_choice sets parts =
    ap (tree_of sets) (sym (variants.rolls-Alt parts)) ∙ fold-roll-Tree spelling.Tree (List spelling.Tree) (tree_step sets) trees_step (Tree-F.Alt parts)
    ∙ ap choice_of (trees_of_out sets parts)

pub tree_of_sequence : (sets : List (List Range)) (parts : Trees) → tree_of sets (tree.Seq parts)
    ≡ sequence_of (map (tree_of sets) (out-Trees parts).items.items)
tree_of_sequence sets parts =
    ap (tree_of sets) (sym (variants.rolls-Seq parts)) ∙ fold-roll-Tree spelling.Tree (List spelling.Tree) (tree_step sets) trees_step (Tree-F.Seq parts)
    ∙ ap sequence_of (trees_of_out sets parts)
