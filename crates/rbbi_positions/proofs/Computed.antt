-- What is computed of a tree is what the lists that it spells say.
use Rattle.std.proofs.Common.{◌≡◌, ℕ, ◌+◌, Bool, true, ◌&&◌, ◌||◌, ◌⊎◌, ◌↔◌, List, [], ◌∷◌, ◌++◌, ap, inl, inr, eqb, eq-eqb}
use Rattle.std.proofs.lemmas.Bool.{eqb-true}
use Rattle.std.proofs.lemmas.Bool.Decides.{Decides-and, Decides-or, Decides-eqb}
use Rattle.rbbi_model.specs.Spelling.{Repetition, Star, Plus, Quest, Tree, Leaf, Empty, Never, Then, Either, Repeat}
use Rattle.rbbi_model.specs.Rules.{leaf_count, IsLawfulTree}
use Rattle.rbbi_model.specs.LeafSets.{SpellsPositions}
use Rattle.rbbi_positions.specs.inner.Trees.{is_nullable, begins, ends, leads, goes}
use Rattle.rbbi_positions.proofs.Empties.{empties_spell, said}
use Rattle.rbbi_positions.proofs.Nodes.{Begins, Ends, Neighbours, some_spelled, both_begins, both_ends, both_neighbours, repeat_begins, repeat_ends}
use Rattle.rbbi_positions.proofs.Nodes.{quest_neighbours, loop_neighbours, star_loops, plus_loops, either_begins, either_ends, either_neighbours}

-- a list of one position
one_begins : (first position : ℕ) (others : List ℕ) → position ∷ others ≡ first ∷ [] → position ≡ first
one_begins first position others e = cc

one_ends : (first position : ℕ) (others : List ℕ) → others ++ position ∷ [] ≡ first ∷ [] → position ≡ first
one_ends first position [] e = cc
one_ends first position (x ∷ []) e = absurd (cc)
one_ends first position (x ∷ y ∷ others) e = absurd (cc)

no_neighbours : (position next : ℕ) (before after : List ℕ) → before ++ position ∷ next ∷ after ≡ [] → ⊥
no_neighbours position next [] after e = cc
no_neighbours position next (x ∷ before) after e = cc

one_no_neighbours : (first position next : ℕ) (before after : List ℕ) → before ++ position ∷ next ∷ after ≡ first ∷ [] → ⊥
one_no_neighbours first position next [] after e = cc
one_no_neighbours first position next (x ∷ before) after e = no_neighbours position next before after (cc)

pub begins_is : (tree : Tree) (first position : ℕ) → IsLawfulTree tree → (begins tree first position ≡ true) ↔ Begins (SpellsPositions tree first) position
begins_is (Leaf set) first position lawful = (
  λ e. ([], ap (λ (n : ℕ). n ∷ []) (eqb-true position first e)),
  λ (others, h). eq-eqb position first (one_begins first position others h),
)
begins_is Empty first position lawful = absurd lawful
begins_is Never first position lawful = absurd lawful
begins_is (Then front rest) first position lawful =
    let second = first + leaf_count front in
    said
    (Decides-or (begins front first position) (is_nullable front && begins rest second position) (begins_is front first position lawful.0)
    (Decides-and (is_nullable front) (begins rest second position) (empties_spell front first) (begins_is rest second position lawful.1)))
    (both_begins (SpellsPositions front first) (SpellsPositions rest second) (some_spelled front first lawful.0) (some_spelled rest second lawful.1) position)
begins_is (Either front rest) first position lawful =
    let second = first + leaf_count front in
    said
    (Decides-or (begins front first position) (begins rest second position) (begins_is front first position lawful.0) (begins_is rest second position lawful.1))
    (either_begins (SpellsPositions front first) (SpellsPositions rest second) position)
begins_is (Repeat repetition part) first position lawful =
    said (begins_is part first position lawful) (repeat_begins repetition (SpellsPositions part first) position)

pub ends_is : (tree : Tree) (first position : ℕ) → IsLawfulTree tree → (ends tree first position ≡ true) ↔ Ends (SpellsPositions tree first) position
ends_is (Leaf set) first position lawful = (
  λ e. ([], ap (λ (n : ℕ). n ∷ []) (eqb-true position first e)),
  λ (others, h). eq-eqb position first (one_ends first position others h),
)
ends_is Empty first position lawful = absurd lawful
ends_is Never first position lawful = absurd lawful
ends_is (Then front rest) first position lawful =
    let second = first + leaf_count front in
    said
    (Decides-or (ends rest second position) (is_nullable rest && ends front first position) (ends_is rest second position lawful.1)
    (Decides-and (is_nullable rest) (ends front first position) (empties_spell rest second) (ends_is front first position lawful.0)))
    (both_ends (SpellsPositions front first) (SpellsPositions rest second) (some_spelled front first lawful.0) (some_spelled rest second lawful.1) position)
ends_is (Either front rest) first position lawful =
    let second = first + leaf_count front in
    said (Decides-or (ends front first position) (ends rest second position) (ends_is front first position lawful.0) (ends_is rest second position lawful.1))
    (either_ends (SpellsPositions front first) (SpellsPositions rest second) position)
ends_is (Repeat repetition part) first position lawful =
    said (ends_is part first position lawful) (repeat_ends repetition (SpellsPositions part first) position)

-- in the tree the next position follows, or it does after the tree and this one ends the tree
abbrev pub GoesOn : Tree → ℕ → ℕ → ℕ → Bool → Type 0
GoesOn tree first position next behind = Neighbours (SpellsPositions tree first) position next ⊎ (Ends (SpellsPositions tree first) position × (behind ≡ true))

-- a test says that it is true
itself : (b : Bool) → (b ≡ true) ↔ (b ≡ true)
itself b = (λ e. e, λ e. e)

-- a repeat of more than one round
round : (part : Tree) (first position next : ℕ) (behind : Bool) →
    (goes part first position next (begins part first next || behind) ≡ true) ↔ GoesOn part first position next (begins part first next || behind) →
    (begins part first next ≡ true) ↔ Begins (SpellsPositions part first) next → (repetition : Repetition) →
    Neighbours (SpellsPositions (Repeat repetition part) first) position
    next ↔ (Neighbours (SpellsPositions part first) position next ⊎ (Ends (SpellsPositions part first) position × Begins (SpellsPositions part first) next)) →
    (goes part first position next (begins part first next || behind) ≡ true) ↔ GoesOn (Repeat repetition part) first position next behind
round part first position next behind inner begin repetition near =
    let end = repeat_ends repetition (SpellsPositions part first) position in
    let led = Decides-or (begins part first next) behind begin (itself behind) in (
      λ e. elim (inner.0 e) [
        | inl h ↦ inl (near.1 (inl h))
        | inr (h, on) ↦ elim (led.0 on) [ inl b ↦ inl (near.1 (inr (h, b))) | inr b ↦ inr (end.1 h, b) ]
      ],
      λ h. elim h [
        | inl n ↦ elim (near.0 n) [ inl a ↦ inner.1 (inl a) | inr (e, b) ↦ inner.1 (inr (e, led.1 (inl b))) ]
        | inr (e, on) ↦ inner.1 (inr (end.0 e, led.1 (inr on)))
      ],
    )

pub goes_is : (tree : Tree) (first position next : ℕ) (behind : Bool) → IsLawfulTree tree →
    (goes tree first position next behind ≡ true) ↔ GoesOn tree first position next behind
goes_is (Leaf set) first position next behind lawful = (
  λ e. (let parts = both.0 e in inr (([], ap (λ (n : ℕ). n ∷ []) parts.0), parts.1)),
  λ h. elim h [
    | inl (before, after, e) ↦ absurd (one_no_neighbours first position next before after e)
    | inr ((others, e), g) ↦ both.1 (one_ends first position others e, g)
  ],
)
  where
    both : ((eqb position first && behind) ≡ true) ↔ ((position ≡ first) × (behind ≡ true))
    both = Decides-and (eqb position first) behind (Decides-eqb position first) (itself behind)
goes_is Empty first position next behind lawful = absurd lawful
goes_is Never first position next behind lawful = absurd lawful
goes_is (Then front rest) first position next behind lawful =
    let second = first + leaf_count front in
    let between : Bool = leads rest second next behind in
    let parts = Decides-or (goes front first position next between) (goes rest second position next behind)
    (goes_is front first position next between lawful.0) (goes_is rest second position next behind lawful.1) in
    let led = Decides-or (begins rest second next) (is_nullable rest && behind) (begins_is rest second next lawful.1)
    (Decides-and (is_nullable rest) behind (empties_spell rest second) (itself behind)) in
    let ended = both_ends (SpellsPositions front first) (SpellsPositions rest second) (some_spelled front first lawful.0) (some_spelled rest second lawful.1)
    position in
    let both = both_neighbours (SpellsPositions front first) (SpellsPositions rest second) (some_spelled front first lawful.0)
    (some_spelled rest second lawful.1) position next in (
      λ e. elim (parts.0 e) [
        | inl a ↦ elim a [
          | inl h ↦ inl (both.1 (inl h))
          | inr (end, on) ↦ elim (led.0 on) [ inl b ↦ inl (both.1 (inr (inr (end, b)))) | inr (none, on) ↦ inr (ended.1 (inr (none, end)), on) ]
        ]
        | inr b ↦ elim b [ inl h ↦ inl (both.1 (inr (inl h))) | inr (end, on) ↦ inr (ended.1 (inl end), on) ]
      ],
      λ h. parts.1 (elim h [
        | inl near ↦ elim (both.0 near) [
          | inl a ↦ inl (inl a)
          | inr more ↦ elim more [ inl b ↦ inr (inl b) | inr (end, b) ↦ inl (inr (end, led.1 (inl b))) ]
        ]
        | inr (end, on) ↦ elim (ended.0 end) [ inl b ↦ inr (inr (b, on)) | inr (none, a) ↦ inl (inr (a, led.1 (inr (none, on)))) ]
      ]),
    )
goes_is (Either front rest) first position next behind lawful =
    let second = first + leaf_count front in
    let parts = Decides-or (goes front first position next behind) (goes rest second position next behind)
    (goes_is front first position next behind lawful.0) (goes_is rest second position next behind lawful.1) in
    let near = either_neighbours (SpellsPositions front first) (SpellsPositions rest second) position next in
    let end = either_ends (SpellsPositions front first) (SpellsPositions rest second) position in (
      λ e. elim (parts.0 e) [
        | inl a ↦ elim a [ inl h ↦ inl (near.1 (inl h)) | inr (h, on) ↦ inr (end.1 (inl h), on) ]
        | inr b ↦ elim b [ inl h ↦ inl (near.1 (inr h)) | inr (h, on) ↦ inr (end.1 (inr h), on) ]
      ],
      λ h. parts.1 (elim h [
        | inl n ↦ elim (near.0 n) [ inl a ↦ inl (inl a) | inr b ↦ inr (inl b) ]
        | inr (e, on) ↦ elim (end.0 e) [ inl a ↦ inl (inr (a, on)) | inr b ↦ inr (inr (b, on)) ]
      ]),
    )
goes_is (Repeat Star part) first position next behind lawful =
    let Part : List ℕ → Type 0 = SpellsPositions part first in
    round part first position next behind (goes_is part first position next (begins part first next || behind) lawful) (begins_is part first next lawful) Star
    (loop_neighbours Star star_loops Part position next)
goes_is (Repeat Plus part) first position next behind lawful =
    let Part : List ℕ → Type 0 = SpellsPositions part first in
    round part first position next behind (goes_is part first position next (begins part first next || behind) lawful) (begins_is part first next lawful) Plus
    (loop_neighbours Plus plus_loops Part position next)
goes_is (Repeat Quest part) first position next behind lawful =
    let inner = goes_is part first position next behind lawful in
    let near = quest_neighbours (SpellsPositions part first) position next in
    let end = repeat_ends Quest (SpellsPositions part first) position in (
      λ e. elim (inner.0 e) [ inl h ↦ inl (near.1 h) | inr (h, on) ↦ inr (end.1 h, on) ],
      λ h. elim h [ inl n ↦ inner.1 (inl (near.0 n)) | inr (e, on) ↦ inner.1 (inr (end.0 e, on)) ],
    )
