-- The worked set `[[ace][bdf]-[abc][def]]`, which tries what set expressions are worth.
use Rattle.std.proofs.Common.{ℕ, false, List, Option, inl, inr, refl, ⊎_elim, arith}
use Rattle.std.specs.Prelude.{MatchOption}
use Rattle.rbbi_model.specs.SetTrees as model
use Rattle.rbbi_props.specs.Rows.{File}
use Rattle.rbbi_tree.specs.Trees.{SetSyntax, PartTree, no_parts, part, joined, set_of, set_character, set_within}
use Rattle.rbbi_tree.specs.declared.syntax.Join.{Join}
use Rattle.rbbi_tree.specs.declared.syntax.Join.TheVariants.{Add, Minus}
use Rattle.rbbi_resolve.specs.SetValues.{HasProperty, value_of_set}

-- a part that is a set of three characters
abbrev letters : Join → ℕ → ℕ → ℕ → PartTree
letters join a b c =
    joined 0 join (set_within (set_of 0 false
    (part (joined 0 Add (set_character a)) (part (joined 0 Add (set_character b)) (part (joined 0 Add (set_character c)) no_parts)))))

abbrev worked : SetSyntax
worked = set_of 0 false (part (letters Add 97 99 101) (part (letters Add 98 100 102) (part (letters Minus 97 98 99) (part (letters Add 100 101 102) no_parts))))

-- the code point is in the worked set
abbrev IsIn : List File → (List ℕ → Option model.SetTree) → ℕ → Type 0
IsIn files named c = MatchOption (value_of_set files named worked) ⊥ (λ tree. model.InSet (HasProperty files) tree c)

-- what is added after the difference stays
d_is_in : (files : List File) (named : List ℕ → Option model.SetTree) → IsIn files named 100
d_is_in files named = inr (inl (inl (inr refl)))

-- and what was added before it is taken away
a_is_not_in : (files : List File) (named : List ℕ → Option model.SetTree) → ¬ IsIn files named 97
a_is_not_in files named here =
    ⊎_elim
    (λ left. left.1 (inl (inl (inr refl))))
    (λ right. ⊎_elim (⊎_elim (⊎_elim (λ none. none) (λ e. omega (arith, e))) (λ e. omega (arith, e))) (λ e. omega (arith, e)) right)
    here
