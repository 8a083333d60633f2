-- The tree that a repetition stands for.
use Rattle.std.proofs.Common.{◌≡◌, ◌≤◌, ℕ, Bool, List, length, take, Box, Global, refl, ap, sym, ◌∙◌}
use Rattle.std.proofs.lemmas.List.{take_all}
use Rattle.std.proofs.Math.Bool.{or_comm}
use Rattle.std.specs.Prelude.{map}
use Rattle.rbbi_model.specs.Ranges.{Range}
use Rattle.rbbi_model.specs.Spelling as spelling
use Rattle.rbbi_model.specs.Rules.{leaf_count}
use Rattle.rbbi_positions.specs.inner.Trees.{begins, goes}
use Rattle.rbbi_positions.specs.inner.Rounds.{behind_of}
use Rattle.rbbi_tree.specs.declared.syntax.Quant.{Quant}
use Rattle.rbbi_tree.specs.declared.syntax.Quant.TheVariants.{Once, Star, Plus, Quest}
use Rattle.rbbi_resolve.specs.declared.rules.Tree.{Tree}
use Rattle.rbbi_resolve.specs.declared.rules.Tree.TheOpen.{Tree-F, Trees-F}
use Rattle.rbbi_resolve.specs.declared.rules.Tree.TheVariants.{Leaf, Seq, Rep, rolls-Leaf, rolls-Seq, rolls-Rep}
use Rattle.rbbi_resolve.specs.declared.rules.Tree.TheFolds.{fold-roll-Tree}
use Rattle.rbbi_resolve.specs.RuleTrees.{repeated, set_at, tree_step, trees_step, tree_of, trees_of_out}

pub tree_of_repeat : (sets : List (List Range)) (quant : Quant) (part : Box Tree Global) →
    tree_of sets (Rep quant part) ≡ repeated quant (tree_of sets part.value)
tree_of_repeat sets quant part = ap (tree_of sets) (sym (rolls-Rep quant part))
    ∙ fold-roll-Tree spelling.Tree (List spelling.Tree) (tree_step sets) trees_step (Tree-F.Rep quant part)

-- what doesn't depend on how often a tree is repeated
pub of_repeat : {A : Type 0} (measure : spelling.Tree → A) →
    ((repetition : spelling.Repetition) (tree : spelling.Tree) → measure (spelling.Repeat repetition tree) ≡ measure tree) →
    (sets : List (List Range)) (quant : Quant) (part : Box Tree Global) → measure (tree_of sets (Rep quant part)) ≡ measure (tree_of sets part.value)
of_repeat measure same sets quant part = ap measure (tree_of_repeat sets quant part) ∙ each quant (tree_of sets part.value)
  where
    each : (quant : Quant) (tree : spelling.Tree) → measure (repeated quant tree) ≡ measure tree
    each Once tree = refl
    each Star tree = same spelling.Star tree
    each Plus tree = same spelling.Plus tree
    each Quest tree = same spelling.Quest tree

-- the part that is repeated, as it was lent, has the leaves of the repeat
pub same_leaves : (sets : List (List Range)) (tree : Tree) (quant : Quant) (part : Box Tree Global) (inner : Tree) → tree ≡ Rep quant part →
    inner ≡ part.value → leaf_count (tree_of sets inner) ≡ leaf_count (tree_of sets tree)
same_leaves sets tree quant part inner is value =
    ap (λ t. leaf_count (tree_of sets t)) value ∙ sym (ap (λ t. leaf_count (tree_of sets t)) is ∙ of_repeat leaf_count (λ repetition t. refl) sets quant part)

pub tree_of_leaf : (sets : List (List Range)) (number : ℕ) → tree_of sets (Leaf number) ≡ spelling.Leaf (set_at sets number)
tree_of_leaf sets number = ap (tree_of sets) (sym (rolls-Leaf number))
    ∙ fold-roll-Tree spelling.Tree (List spelling.Tree) (tree_step sets) trees_step (Tree-F.Leaf number)

pub tree_of_sequence : (sets : List (List Range)) (parts : Trees-F Tree (Unit {0})) →
    tree_of sets (Seq parts) ≡ spelling.sequence_of (map (tree_of sets) parts.items.items)
tree_of_sequence sets parts = ap (tree_of sets) (sym (rolls-Seq parts))
    ∙ fold-roll-Tree spelling.Tree (List spelling.Tree) (tree_step sets) trees_step (Tree-F.Seq parts) ∙ ap spelling.sequence_of (trees_of_out sets parts)

-- a sequence, by its first so many parts, which are all
pub tree_of_all : (sets : List (List Range)) (tree : Tree) (parts : Trees-F Tree (Unit {0})) (n : ℕ) → tree ≡ Seq parts → length parts.items.items ≤ n →
    tree_of sets tree ≡ spelling.sequence_of (map (tree_of sets) (take n parts.items.items))
tree_of_all sets tree parts n is past = ap (tree_of sets) is ∙ tree_of_sequence sets parts
    ∙ ap (λ ts. spelling.sequence_of (map (tree_of sets) ts)) (sym (take_all n parts.items.items past))

-- what follows in a repeat is what does in the part, with the next round after it
pub goes_repeat : (quant : Quant) (part : spelling.Tree) (first position next : ℕ) (behind : Bool) →
    goes (repeated quant part) first position next behind ≡ goes part first position next (behind_of quant part first next behind)
goes_repeat Once part first position next behind = refl
goes_repeat Star part first position next behind = ap (goes part first position next) (or_comm (begins part first next) behind)
goes_repeat Plus part first position next behind = ap (goes part first position next) (or_comm (begins part first next) behind)
goes_repeat Quest part first position next behind = refl
