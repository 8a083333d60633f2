-- The positions of a tree lie in a span: from that of its first leaf on, as many as it has leaves.
use Rattle.std.proofs.Common.{ℕ, ◌+◌, ◌≤◌, ◌<◌, List, [], ◌∷◌, ◌++◌, sym, subst, inl, inr, arith}
use Rattle.std.specs.List.{AllByRecursion}
use Rattle.rbbi_model.specs.Spelling.{Tree, Leaf, Empty, Never, Then, Either, Repeat, joined}
use Rattle.rbbi_model.specs.Rules.{leaf_count}
use Rattle.rbbi_model.specs.LeafSets.{SpellsPositions}
use Rattle.rbbi_model.proofs.Lists.{all_append, all_right, all_through}

-- the position lies from one on, among so many
pub record InSpan (first count position : ℕ) : Type 0 where
  pub from : first ≤ position
  pub to : position < first + count

pub sooner_span : (first front rest position : ℕ) → InSpan first front position → InSpan first (front + rest) position
sooner_span first front rest position h = record { from = h.from; to = omega (arith, h.to) }

pub later_span : (first front rest position : ℕ) → InSpan (first + front) rest position → InSpan first (front + rest) position
later_span first front rest position h = record { from = omega (arith, h.from); to = omega (arith, h.to) }

joined_within : (P : ℕ → Type 0) (pieces : List (List ℕ)) → AllByRecursion (AllByRecursion P) pieces → AllByRecursion P (joined pieces)
joined_within P [] h = tt
joined_within P (piece ∷ pieces) h = all_append P piece (joined pieces) h.0 (joined_within P pieces h.1)

pub in_span : (tree : Tree) (first : ℕ) (positions : List ℕ) → SpellsPositions tree first positions → AllByRecursion (InSpan first (leaf_count tree)) positions
in_span (Leaf set) first positions h =
    let P : List ℕ → Type 0 = AllByRecursion (InSpan first 1) in
    subst P (sym h) (record { from = omega arith; to = omega arith }, tt)
in_span Empty first positions h =
    let P : List ℕ → Type 0 = AllByRecursion (InSpan first 0) in
    subst P (sym h) tt
in_span Never first positions h = absurd h
in_span (Then front rest) first positions (u, v, left, right, e) =
    let P : List ℕ → Type 0 = AllByRecursion (InSpan first (leaf_count front + leaf_count rest)) in
    subst P (sym e) (all_append (InSpan first (leaf_count front + leaf_count rest)) u v
    (all_through (InSpan first (leaf_count front)) (InSpan first (leaf_count front + leaf_count rest))
    (sooner_span first (leaf_count front) (leaf_count rest)) u (in_span front first u left))
    (all_through (InSpan (first + leaf_count front) (leaf_count rest)) (InSpan first (leaf_count front + leaf_count rest))
    (later_span first (leaf_count front) (leaf_count rest)) v (in_span rest (first + leaf_count front) v right)))
in_span (Either front rest) first positions (inl h) =
    all_through (InSpan first (leaf_count front)) (InSpan first (leaf_count front + leaf_count rest))
    (sooner_span first (leaf_count front) (leaf_count rest)) positions (in_span front first positions h)
in_span (Either front rest) first positions (inr h) =
    all_through (InSpan (first + leaf_count front) (leaf_count rest)) (InSpan first (leaf_count front + leaf_count rest))
    (later_span first (leaf_count front) (leaf_count rest)) positions (in_span rest (first + leaf_count front) positions h)
in_span (Repeat repetition part) first positions (pieces, allowed, each, e) =
    let P : List ℕ → Type 0 = AllByRecursion (InSpan first (leaf_count part)) in
    subst P (sym e) (joined_within (InSpan first (leaf_count part)) pieces
    (all_through (SpellsPositions part first) (AllByRecursion (InSpan first (leaf_count part))) (in_span part first) pieces each))

-- a position in the middle of a spelled list
pub middle_in_span : (tree : Tree) (first : ℕ) (before after : List ℕ) (x : ℕ) → SpellsPositions tree first (before ++ x ∷ after) →
    InSpan first (leaf_count tree) x
middle_in_span tree first before after x h = (all_right (InSpan first (leaf_count tree)) before (x ∷ after) (in_span tree first (before ++ x ∷ after) h)).0

-- two neighbouring spans have nothing in common
pub apart : {A : Type 0} (first front rest position : ℕ) → InSpan first front position → InSpan (first + front) rest position → A
apart first front rest position h g = absurd (omega (arith, h.to, g.from))
