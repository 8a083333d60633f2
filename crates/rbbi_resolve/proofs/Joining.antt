-- Trees at the end of a list that become one.
use Rattle.std.proofs.Common.{◌≡◌, ℕ, ◌+◌, List, [], ◌∷◌, ◌++◌, map, length, take, drop, sym, ap, ◌∙◌, arith}
use Rattle.std.specs.List.{flat_map}
use Rattle.std.proofs.lemmas.List.{append-nil, length-append}
use Rattle.std.proofs.Math.Seq.{take-append_seam, drop-append_seam}
use Rattle.rbbi_model.specs.Ranges.{Range}
use Rattle.rbbi_model.specs.Spelling as spelling
use Rattle.rbbi_resolve.specs.declared.rules.Tree.{Tree}
use Rattle.rbbi_resolve.specs.RuleTrees.{tree_of, numbers_of}
use Rattle.rbbi_resolve.specs.inner.Builders.{IsJoined, JoinsFrom}

-- one tree alone is its sequence, its choice ..
pub joined_alone : (make : List spelling.Tree → spelling.Tree) → ((t : spelling.Tree) → make (t ∷ []) ≡ t) → (before parts trees : List Tree) →
    trees ≡ before ++ parts → length trees ≡ length before + 1 → IsJoined make before parts trees
joined_alone make one before [] trees is long = absurd (omega (arith, ap length is, length-append {A = Tree}))
joined_alone make one before (t ∷ []) trees is long =
    record { tree = t; is = is; stands = λ sets. sym (one (tree_of sets t)); numbers = sym (append-nil (numbers_of t)) }
joined_alone make one before (t ∷ u ∷ ts) trees is long = absurd (omega (arith, ap length is, length-append {A = Tree}))

-- a tree was made of those behind the first ones, and put in their place
pub joined_behind : (make : List spelling.Tree → spelling.Tree) (first : ℕ) (old taken new : List Tree) (tree : Tree) → new ≡ take first old ++ tree ∷ [] →
    taken ≡ drop first old → ((sets : List (List Range)) → tree_of sets tree ≡ make (map (tree_of sets) taken)) →
    numbers_of tree ≡ flat_map numbers_of taken → JoinsFrom make first old new
joined_behind make first old taken new tree put rest stands numbers before parts long is =
    let front : take first old ≡ before = ap (λ n. take n old) long ∙ ap (take (length before)) is ∙ take-append_seam before parts in
    let back : taken ≡ parts = rest ∙ ap (λ n. drop n old) long ∙ ap (drop (length before)) is ∙ drop-append_seam before parts in
    record {
      tree = tree;
      is = put ∙ ap (λ ts. ts ++ tree ∷ []) front;
      stands = λ sets. stands sets ∙ ap (λ ts. make (map (tree_of sets) ts)) back;
      numbers = numbers ∙ ap (flat_map numbers_of) back;
    }
