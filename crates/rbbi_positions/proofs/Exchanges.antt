-- Two lists that a tree spells, with a position in common, may be exchanged after it: a tree has each position but once.
use Rattle.std.proofs.Common.{◌≡◌, ℕ, ◌+◌, Option, None, Some, List, [], ◌∷◌, ◌++◌, ap, sym, ◌∙◌, subst, inl, inr, append_assoc, arith, length-append}
use Rattle.std.specs.Prelude.{MatchOption}
use Rattle.std.specs.List.{AllByRecursion}
use Rattle.rbbi_model.specs.Spelling.{Repetition, Star, Plus, Quest, Tree, Leaf, Empty, Never, Then, Either, Repeat, Allows, joined}
use Rattle.rbbi_model.specs.Rules.{leaf_count}
use Rattle.rbbi_model.specs.LeafSets.{SpellsPositions}
use Rattle.rbbi_model.proofs.Lists.{all_append, all_left, all_right}
use Rattle.rbbi_positions.proofs.Splits.{side_of, piece_of, joined-append}
use Rattle.rbbi_positions.proofs.Spans.{middle_in_span, apart}

-- the lists that are spelled, of which two with a position in common may be exchanged after it
abbrev pub Exchanges : (List ℕ → Type 0) → Type 0
Exchanges Spelled = (before after sooner later : List ℕ) (x : ℕ) → Spelled (before ++ x ∷ after) → Spelled (sooner ++ x ∷ later) → Spelled (before ++ x ∷ later)

-- the lists that are spelled by one and then by another
abbrev pub Both : (List ℕ → Type 0) → (List ℕ → Type 0) → List ℕ → Type 0
Both Front Rest positions = (u : List ℕ) × (v : List ℕ) × Front u × Rest v × (positions ≡ u ++ v)

-- no position is spelled by both
abbrev pub Apart : (List ℕ → Type 0) → (List ℕ → Type 0) → Type 0
Apart Front Rest = (before after sooner later : List ℕ) (x : ℕ) → Front (before ++ x ∷ after) → Rest (sooner ++ x ∷ later) → ⊥

pub both_exchange : (Front Rest : List ℕ → Type 0) → Apart Front Rest → Exchanges Front → Exchanges Rest → Exchanges (Both Front Rest)
both_exchange Front Rest apart front rest before after sooner later x (u, v, fu, rv, e) (u', v', fu', rv', e') =
    elim (side_of u v before after x e) [
      | inl a ↦ elim (side_of u' v' sooner later x e') [
        | inl b ↦ (
          before ++ x ∷ b.between,
          v',
          front before a.between sooner b.between x (subst Front a.front_is fu) (subst Front b.front_is fu'),
          rv',
          ap (λ l. before ++ x ∷ l) b.after_is ∙ sym (append_assoc before (x ∷ b.between) v'),
        )
        | inr b ↦ absurd (apart before a.between b.between later x (subst Front a.front_is fu) (subst Rest b.back_is rv'))
      ]
      | inr a ↦ elim (side_of u' v' sooner later x e') [
        | inl b ↦ absurd (apart sooner b.between a.between after x (subst Front b.front_is fu') (subst Rest a.back_is rv))
        | inr b ↦ (
          u,
          a.between ++ x ∷ later,
          fu,
          rest a.between after b.between later x (subst Rest a.back_is rv) (subst Rest b.back_is rv'),
          ap (λ l. l ++ x ∷ later) a.before_is ∙ append_assoc u a.between (x ∷ later),
        )
      ]
    ]

-- some pieces that are allowed with one in the middle
pub allowed_middle : (repetition : Repetition) (sooner later sooner' later' : List (List ℕ)) (piece piece' new : List ℕ) →
    Allows repetition (sooner ++ piece ∷ later) → Allows repetition (sooner' ++ piece' ∷ later') → Allows repetition (sooner ++ new ∷ later')
allowed_middle Star sooner later sooner' later' piece piece' new h g = tt
allowed_middle Plus [] later sooner' later' piece piece' new h g = λ e. absurd (cc)
allowed_middle Plus (first ∷ sooner) later sooner' later' piece piece' new h g = λ e. absurd (cc)
allowed_middle Quest sooner later sooner' later' piece piece' new h g =
    omega (arith, h, g, length-append sooner (piece ∷ later), length-append sooner' (piece' ∷ later'), length-append sooner (new ∷ later'))

pub repeat_exchange : (repetition : Repetition) (Part : List ℕ → Type 0) → Exchanges Part →
    Exchanges (λ positions. (pieces : List (List ℕ)) × Allows repetition pieces × AllByRecursion Part pieces × (positions ≡ joined pieces))
repeat_exchange repetition Part part before after sooner later x (pieces, allowed, each, e) (pieces', allowed', each', e') =
    let a = piece_of pieces before after x e in
    let b = piece_of pieces' sooner later x e' in
    let those : AllByRecursion Part (a.sooner ++ (a.front ++ x ∷ a.back) ∷ a.later) = subst (AllByRecursion Part) a.pieces_are each in
    let these : AllByRecursion Part (b.sooner ++ (b.front ++ x ∷ b.back) ∷ b.later) = subst (AllByRecursion Part) b.pieces_are each' in
    let behind = all_right Part a.sooner ((a.front ++ x ∷ a.back) ∷ a.later) those in
    let behind' = all_right Part b.sooner ((b.front ++ x ∷ b.back) ∷ b.later) these in
    let new : List ℕ = a.front ++ x ∷ b.back in (
      a.sooner ++ new ∷ b.later,
      allowed_middle repetition a.sooner a.later b.sooner b.later (a.front ++ x ∷ a.back) (b.front ++ x ∷ b.back) new
          (subst (Allows repetition) a.pieces_are allowed) (subst (Allows repetition) b.pieces_are allowed'),
      all_append Part a.sooner (new ∷ b.later) (all_left Part a.sooner ((a.front ++ x ∷ a.back) ∷ a.later) those)
          (part a.front a.back b.front b.back x behind.0 behind'.0, behind'.1),
      joins a.sooner b.later a.front b.back before later x a.before_is b.after_is,
    )
  where
    joins : (these those : List (List ℕ)) (front back before later : List ℕ) (x : ℕ) → before ≡ joined these ++ front → later ≡ back ++ joined those →
        before ++ x ∷ later ≡ joined (these ++ (front ++ x ∷ back) ∷ those)
    joins these those front back before later x e d =
        ap (λ l. l ++ x ∷ later) e ∙ append_assoc (joined these) front (x ∷ later)
        ∙ ap (λ l. joined these ++ (front ++ x ∷ l)) d ∙ ap (λ l. joined these ++ l) (sym (append_assoc front (x ∷ back) (joined those)))
        ∙ sym (joined-append these ((front ++ x ∷ back) ∷ those))

-- the parts of a tree side by side have no position in common
pub parts_apart : (front rest : Tree) (first : ℕ) → Apart (SpellsPositions front first) (SpellsPositions rest (first + leaf_count front))
parts_apart front rest first before after sooner later x h g =
    apart first (leaf_count front) (leaf_count rest) x (middle_in_span front first before after x h)
    (middle_in_span rest (first + leaf_count front) sooner later x g)

pub tree_exchange : (tree : Tree) (first : ℕ) → Exchanges (SpellsPositions tree first)
tree_exchange (Leaf set) first [] after sooner later x h g = leaf_exchange first after sooner later x h g
  where
    leaf_exchange : (first : ℕ) (after sooner later : List ℕ) (x : ℕ) → x ∷ after ≡ first ∷ [] → sooner ++ x ∷ later ≡ first ∷ [] → x ∷ later ≡ first ∷ []
    leaf_exchange first after [] later x h g = g
    leaf_exchange first after (y ∷ []) later x h g = absurd (cc)
    leaf_exchange first after (y ∷ z ∷ sooner) later x h g = absurd (cc)
tree_exchange (Leaf set) first (y ∷ []) after sooner later x h g = absurd (cc)
tree_exchange (Leaf set) first (y ∷ z ∷ before) after sooner later x h g = absurd (cc)
tree_exchange Empty first [] after sooner later x h g = absurd (cc)
tree_exchange Empty first (y ∷ before) after sooner later x h g = absurd (cc)
tree_exchange Never first before after sooner later x h g = absurd h
tree_exchange (Then front rest) first before after sooner later x h g =
    both_exchange (SpellsPositions front first) (SpellsPositions rest (first + leaf_count front)) (parts_apart front rest first)
    (tree_exchange front first) (tree_exchange rest (first + leaf_count front)) before after sooner later x h g
tree_exchange (Either front rest) first before after sooner later x (inl h) (inl g) = inl (tree_exchange front first before after sooner later x h g)
tree_exchange (Either front rest) first before after sooner later x (inr h) (inr g) =
    inr (tree_exchange rest (first + leaf_count front) before after sooner later x h g)
tree_exchange (Either front rest) first before after sooner later x (inl h) (inr g) = absurd (parts_apart front rest first before after sooner later x h g)
tree_exchange (Either front rest) first before after sooner later x (inr h) (inl g) = absurd (parts_apart front rest first sooner later before after x g h)
tree_exchange (Repeat repetition part) first before after sooner later x h g =
    repeat_exchange repetition (SpellsPositions part first) (tree_exchange part first) before after sooner later x h g

-- the lists that a front spells, and after it perhaps a rest
abbrev pub Spelled : Tree → Option Tree → ℕ → List ℕ → Type 0
Spelled front rest first positions =
    MatchOption rest (SpellsPositions front first positions)
    (λ rest. (u : List ℕ) × (v : List ℕ) × SpellsPositions front first u × SpellsPositions rest (first + leaf_count front) v × (positions ≡ u ++ v))

pub spelled_exchange : (front : Tree) (rest : Option Tree) (first : ℕ) → Exchanges (Spelled front rest first)
spelled_exchange front None first before after sooner later x h g = tree_exchange front first before after sooner later x h g
spelled_exchange front (Some rest) first before after sooner later x h g =
    both_exchange (SpellsPositions front first) (SpellsPositions rest (first + leaf_count front)) (parts_apart front rest first)
    (tree_exchange front first) (tree_exchange rest (first + leaf_count front)) before after sooner later x h g

-- a list of a rule and one of its front, with a position in common
pub front_exchange : (front : Tree) (rest : Option Tree) (first : ℕ) (before after sooner later : List ℕ) (x : ℕ) →
    Spelled front rest first (before ++ x ∷ after) → SpellsPositions front first (sooner ++ x ∷ later) → SpellsPositions front first (before ++ x ∷ later)
front_exchange front None first before after sooner later x h g = tree_exchange front first before after sooner later x h g
front_exchange front (Some rest) first before after sooner later x (u, v, fu, rv, e) g =
    elim (side_of u v before after x e) [
      | inl a ↦ tree_exchange front first before a.between sooner later x (subst (SpellsPositions front first) a.front_is fu) g
      | inr a ↦ absurd (parts_apart front rest first sooner later a.between after x g (subst (SpellsPositions rest (first + leaf_count front)) a.back_is rv))
    ]
