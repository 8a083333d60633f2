-- Two lists of the form of a set that have the same members are equal.
use Rattle.std.proofs.Common.{◌≡◌, ℕ, ◌+◌, ◌≤◌, List, [], ◌∷◌, refl, ap, sym, ◌∙◌, inl, inr, arith, ◌↔◌, Decides, eqb, ◌&&◌}
use Rattle.std.proofs.lemmas.Bool.{cases_order}
use Rattle.std.proofs.lemmas.Bool.Decides.{Decides-and, Decides-eqb}
use Rattle.rbbi_model.specs.Ranges.{Range, Has}
use Rattle.rbbi_sets.specs.Rising.{AreRisingFrom, AreRising}
use Rattle.rbbi_sets.proofs.Meanings.{members_from}

SameMembers : List Range → List Range → Type 0
SameMembers xs ys = (c : ℕ) → Has xs c → Has ys c

-- a list's least member is no less than another's that has it too
low_le : (bound : ℕ) (x y : Range) (xs ys : List Range) → AreRisingFrom bound (y ∷ ys) → x.low ≤ x.high → SameMembers (x ∷ xs) (y ∷ ys) → y.low ≤ x.low
unfolding SameMembers
low_le bound x y xs ys r n h =
    members_from y.low (y ∷ ys) x.low (omega arith, r.1, r.2, r.3) (h x.low (inl (omega arith, n)))

-- a first range is no longer than that of another list that has the same first code point and its members
high_le : (bound other : ℕ) (x y : Range) (xs ys : List Range) → AreRisingFrom bound (x ∷ xs) → AreRisingFrom other (y ∷ ys) → x.low ≡ y.low →
    SameMembers (y ∷ ys) (x ∷ xs) → y.high ≤ x.high
unfolding SameMembers
high_le bound other x y xs ys r s e h =
    elim (cases_order x.high y.high) [
      | inl same ↦ omega arith
      | inr apart ↦ elim apart [
        | inl shorter ↦
            elim (h (x.high + 1) (inl (omega (arith, r.1), omega arith))) [
              | inl inside ↦ absurd (omega (arith, inside.1))
              | inr later ↦ absurd (omega (arith, members_from (x.high + 2) xs (x.high + 1) r.3 later))
            ]
        | inr longer ↦ omega arith
      ]
    ]

-- behind equal first ranges the members are the same
tails : (x y : Range) (xs ys : List Range) → AreRisingFrom (x.high + 2) xs → x.high ≡ y.high → SameMembers (x ∷ xs) (y ∷ ys) → SameMembers xs ys
unfolding SameMembers
tails x y xs ys r e h c i =
    elim (h c (inr i)) [
      | inl inside ↦ absurd (omega (arith, inside.1, e, members_from (x.high + 2) xs c r i))
      | inr later ↦ later
    ]

pub range_is : (x y : Range) → x.low ≡ y.low → x.high ≡ y.high → x ≡ y
range_is x y l h =
    let made : ℕ → ℕ → Range = λ a b. record { low = a; high = b } in
    ap (λ a. made a x.high) l ∙ ap (λ b. made y.low b) h

-- the test of two ranges decides whether they are equal
pub Decides-range : (x y : Range) → Decides (eqb x.low y.low && eqb x.high y.high) (x ≡ y)
Decides-range x y =
    let both = Decides-and _ _ (Decides-eqb x.low y.low) (Decides-eqb x.high y.high) in
    (λ t. range_is x y (both.0 t).0 (both.0 t).1, λ e. both.1 (ap (λ (r : Range). r.low) e, ap (λ (r : Range). r.high) e))

determined : (bound other : ℕ) (xs ys : List Range) → AreRisingFrom bound xs → AreRisingFrom other ys → SameMembers xs ys → SameMembers ys xs → xs ≡ ys
unfolding SameMembers
determined bound other [] [] r s h g = refl
determined bound other [] (y ∷ ys) r s h g = absurd (g y.low (inl (omega arith, s.1)))
determined bound other (x ∷ xs) [] r s h g = absurd (h x.low (inl (omega arith, r.1)))
determined bound other (x ∷ xs) (y ∷ ys) r s h g =
    let low : x.low ≡ y.low = omega (arith, low_le other x y xs ys s r.1 h, low_le bound y x ys xs r s.1 g) in
    let high : x.high ≡ y.high = omega (arith, high_le bound other x y xs ys r s low g, high_le other bound y x ys xs s r (sym low) h) in
    let rest : xs ≡ ys = determined (x.high + 2) (y.high + 2) xs ys r.3 s.3 (tails x y xs ys r.3 high h) (tails y x ys xs s.3 (sym high) g) in
    ap (λ r. r ∷ xs) (range_is x y low high) ∙ ap (λ rs. y ∷ rs) rest

pub members_determine_lem : (xs ys : List Range) → AreRising xs → AreRising ys → ((c : ℕ) → Has xs c ↔ Has ys c) → xs ≡ ys
unfolding SameMembers
members_determine_lem xs ys r s h = determined 0 0 xs ys r s (λ c. (h c).0) (λ c. (h c).1)
