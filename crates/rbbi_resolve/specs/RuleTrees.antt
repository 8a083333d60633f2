-- The trees of the specification that the rules of the code stand for, each leaf with its set.
use Rattle.std.specs.Prelude.{◌≡◌, ℕ, List, [], ◌∷◌, map, unwrap_or, slice_get}
use Rattle.std.specs.List.{flat_map}
use Rattle.rbbi_model.specs.Ranges.{Range}
use Rattle.rbbi_model.specs.Spelling as spelling
use Rattle.rbbi_tree.specs.declared.syntax.Quant.{Quant}
use Rattle.rbbi_tree.specs.declared.syntax.Quant.TheVariants.{Once, Star, Plus, Quest}
use Rattle.rbbi_resolve.specs.declared.rules.Tree.{Tree}
use Rattle.rbbi_resolve.specs.declared.rules.Trees.{Trees}
use Rattle.rbbi_resolve.specs.declared.rules.Tree.TheOpen.{Tree-F, Trees-F}
use Rattle.rbbi_resolve.specs.declared.rules.Tree.TheViews.{out-Trees}
use Rattle.rbbi_resolve.specs.declared.rules.Tree.TheFolds.{fold-Tree, fold-Trees, fold_out-Trees}

-- the repetition of a tree; once is the tree itself
abbrev pub repeated : Quant → spelling.Tree → spelling.Tree
repeated Once tree = tree
repeated Star tree = spelling.Repeat spelling.Star tree
repeated Plus tree = spelling.Repeat spelling.Plus tree
repeated Quest tree = spelling.Repeat spelling.Quest tree

-- the set with a number, and the empty set if there is none
abbrev pub set_at : List (List Range) → ℕ → List Range
set_at sets number = unwrap_or (slice_get sets number) []

-- one level of each kind of value, with the trees of the values inside in their place
abbrev pub tree_step : List (List Range) → Tree-F spelling.Tree (List spelling.Tree) → spelling.Tree
tree_step sets (Tree-F.Leaf number) = spelling.Leaf (set_at sets number)
tree_step sets (Tree-F.Seq parts) = spelling.sequence_of parts
tree_step sets (Tree-F.Alt parts) = spelling.choice_of parts
tree_step sets (Tree-F.Rep quant part) = repeated quant part.value

abbrev pub trees_step : Trees-F spelling.Tree (List spelling.Tree) → List spelling.Tree
trees_step parts = parts.items.items

-- the tree that a value stands for, where its leaves have the numbers of these sets
abbrev pub tree_of : List (List Range) → Tree → spelling.Tree
tree_of sets = fold-Tree spelling.Tree (List spelling.Tree) (tree_step sets) trees_step

-- the trees of parts
abbrev pub trees_of : List (List Range) → Trees → List spelling.Tree
trees_of sets = fold-Trees spelling.Tree (List spelling.Tree) (tree_step sets) trees_step

-- parts have the trees of their members
pub trees_of_out : (sets : List (List Range)) (parts : Trees) → trees_of sets parts ≡ map (tree_of sets) (out-Trees parts).items.items
trees_of_out sets = fold_out-Trees spelling.Tree (List spelling.Tree) (tree_step sets) trees_step

-- the numbers of a tree's leaves, from the left
abbrev pub numbers_step : Tree-F (List ℕ) (List ℕ) → List ℕ
numbers_step (Tree-F.Leaf number) = number ∷ []
numbers_step (Tree-F.Seq parts) = parts
numbers_step (Tree-F.Alt parts) = parts
numbers_step (Tree-F.Rep quant part) = part.value

abbrev pub numbers_of_parts_step : Trees-F (List ℕ) (List ℕ) → List ℕ
numbers_of_parts_step parts = flat_map (λ numbers. numbers) parts.items.items

abbrev pub numbers_of : Tree → List ℕ
numbers_of = fold-Tree (List ℕ) (List ℕ) numbers_step numbers_of_parts_step

-- the numbers of the leaves of parts
abbrev pub numbers_of_parts : Trees → List ℕ
numbers_of_parts = fold-Trees (List ℕ) (List ℕ) numbers_step numbers_of_parts_step

-- parts have the numbers of their members
pub numbers_of_parts_out : (parts : Trees) → numbers_of_parts parts ≡ flat_map (λ numbers. numbers) (map numbers_of (out-Trees parts).items.items)
numbers_of_parts_out = fold_out-Trees (List ℕ) (List ℕ) numbers_step numbers_of_parts_step
