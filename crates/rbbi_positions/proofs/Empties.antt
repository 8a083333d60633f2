-- Whether a tree spells the empty list, part by part.
use Rattle.std.proofs.Common.{◌≡◌, ℕ, ◌+◌, ◌<◌, true, false, ◌&&◌, ◌||◌, List, [], ◌∷◌, length, get_or, drop, refl, ap, sym, ◌∙◌, arith}
use Rattle.std.proofs.Math.Bool.{and-true, or-false}
use Rattle.std.proofs.lemmas.Bool.Decides.{Decides-and, Decides-or}
use Rattle.std.specs.Prelude.{map}
use Rattle.std.proofs.lemmas.List.{drop_all}
use Rattle.std.proofs.Common.{drop-cons, suc, ◌≤◌}
use Rattle.rbbi_model.specs.Spelling.{Tree, Leaf, Empty, Never, Then, Either, Repeat, sequence_of, choice_of}
use Rattle.std.proofs.Common.{◌↔◌}
use Rattle.rbbi_model.specs.Spelling.{Star, Plus, Quest}
use Rattle.rbbi_model.specs.Rules.{leaf_count}
use Rattle.rbbi_model.specs.LeafSets.{SpellsPositions}
use Rattle.rbbi_positions.proofs.Nodes.{both_empty, plus_empty, star_empty, quest_empty}
use Rattle.rbbi_positions.specs.inner.Trees.{is_nullable}

pub empty_sequence : (part : Tree) (parts : List Tree) → is_nullable (sequence_of (part ∷ parts)) ≡ (is_nullable part && is_nullable (sequence_of parts))
empty_sequence part [] = sym (and-true (is_nullable part))
empty_sequence part (next ∷ parts) = refl

pub empty_choice : (part : Tree) (parts : List Tree) → is_nullable (choice_of (part ∷ parts)) ≡ (is_nullable part || is_nullable (choice_of parts))
empty_choice part [] = sym (or-false (is_nullable part))
empty_choice part (next ∷ parts) = refl

module _ {T : Type 0} (f : T → Tree) (parts : List T) (i : ℕ) (part : T) (below : i < length parts) (is : part ≡ get_or parts i part) where
  pub next_part : map f (drop i parts) ≡ f part ∷ map f (drop (i + 1) parts)
  next_part =
      let e : suc i ≡ i + 1 = omega arith in
      ap (map f) (drop-cons parts i part below) ∙ ap (λ (p : T). f p ∷ map f (drop (suc i) parts)) (sym is) ∙ ap (λ (n : ℕ). f part ∷ map f (drop n parts)) e

  pub sequence_step : is_nullable (sequence_of (map f (drop i parts))) ≡ (is_nullable (f part) && is_nullable (sequence_of (map f (drop (i + 1) parts))))
  sequence_step = ap (λ l. is_nullable (sequence_of l)) next_part ∙ empty_sequence (f part) (map f (drop (i + 1) parts))

  pub choice_step : is_nullable (choice_of (map f (drop i parts))) ≡ (is_nullable (f part) || is_nullable (choice_of (map f (drop (i + 1) parts))))
  choice_step = ap (λ l. is_nullable (choice_of l)) next_part ∙ empty_choice (f part) (map f (drop (i + 1) parts))

pub sequence_end : {T : Type 0} (f : T → Tree) (parts : List T) (i : ℕ) → length parts ≤ i → is_nullable (sequence_of (map f (drop i parts))) ≡ true
sequence_end f parts i past = ap (λ l. is_nullable (sequence_of (map f l))) (drop_all i parts past)

pub choice_end : {T : Type 0} (f : T → Tree) (parts : List T) (i : ℕ) → length parts ≤ i → is_nullable (choice_of (map f (drop i parts))) ≡ false
choice_end f parts i past = ap (λ l. is_nullable (choice_of (map f l))) (drop_all i parts past)

-- what is said in one way is said in another
pub said : {A B C : Type 0} → A ↔ B → C ↔ B → A ↔ C
said one other = (λ a. other.1 (one.0 a), λ c. one.1 (other.0 c))

-- the test says whether the empty list is spelled
pub empties_spell : (tree : Tree) (first : ℕ) → (is_nullable tree ≡ true) ↔ SpellsPositions tree first []
empties_spell (Leaf set) first = (λ e. absurd (cc), λ e. absurd (cc))
empties_spell Empty first = (λ e. refl, λ e. refl)
empties_spell Never first = (λ e. absurd (cc), λ h. absurd h)
empties_spell (Then front rest) first =
    let second = first + leaf_count front in
    said (Decides-and (is_nullable front) (is_nullable rest) (empties_spell front first) (empties_spell rest second))
    (both_empty (SpellsPositions front first) (SpellsPositions rest second))
empties_spell (Either front rest) first =
    Decides-or (is_nullable front) (is_nullable rest) (empties_spell front first) (empties_spell rest (first + leaf_count front))
empties_spell (Repeat Star part) first = (λ e. star_empty (SpellsPositions part first), λ h. refl)
empties_spell (Repeat Plus part) first = said (empties_spell part first) (plus_empty (SpellsPositions part first))
empties_spell (Repeat Quest part) first = (λ e. quest_empty (SpellsPositions part first), λ h. refl)
