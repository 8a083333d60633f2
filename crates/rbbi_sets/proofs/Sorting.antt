-- A list of ranges in another order, and a front of one.
use Rattle.std.proofs.Common.{◌≡◌, ℕ, ◌+◌, ◌<◌, ◌≤◌, suc, zero, ◌||◌, List, [], ◌∷◌, length, get_or, take, refl, ap, sym, ◌∙◌, subst, inl, inr, arith, ◌↔◌}
use Rattle.std.specs.List.{Contains}
use Rattle.std.specs.List.Sorted.{IsPermutation, IsNonDecreasingBy}
use Rattle.std.proofs.lemmas.List.{take_more, get_or_default}
use Rattle.std.proofs.lemmas.List.Sorted.{Contains-permutation, IsPermutation-sym}
use Rattle.rbbi_model.specs.Ranges.{Range, InRange, Has}
use Rattle.rbbi_sets.specs.Covers.{is_between, covers}
use Rattle.rbbi_sets.specs.inner.Joins.{Joins}
use Rattle.rbbi_sets.specs.Rising.{AreRising}
use Rattle.rbbi_sets.specs.inner.Rising.{BeginUpTo}
use Rattle.rbbi_sets.proofs.Coverage.{covers-push}
use Rattle.rbbi_sets.proofs.Rise.{begin-weaker}

pub Has-at : (xs : List Range) (k : ℕ) (d : Range) (c : ℕ) → k < length xs → InRange (get_or xs k d) c → Has xs c
Has-at [] k d c l h = absurd (omega arith)
Has-at (x ∷ xs) zero d c l h = inl h
Has-at (x ∷ xs) (suc k) d c l h = inr (Has-at xs k d c (omega arith) h)

pub range_of_member : (xs : List Range) (c : ℕ) → Has xs c → (range : Range) × (InRange range c) × Contains xs range
range_of_member [] c h = absurd h
range_of_member (x ∷ xs) c h =
    elim h [
      | inl inside ↦ (x, inside, (0, omega arith, refl))
      | inr later ↦
          let found = range_of_member xs c later in
          let place = found.2 in
          (found.0, found.1, (suc place.0, omega (arith, place.1), place.2))
    ]

moved : (xs ys : List Range) (c : ℕ) → IsPermutation xs ys → Has xs c → Has ys c
moved xs ys c p h =
    let found = range_of_member xs c h in
    let place = Contains-permutation xs ys found.0 p found.2 in
    Has-at ys place.0 found.0 c place.1 (subst (λ (r : Range). InRange r c) (sym place.2) found.1)

pub permuted_members : (xs ys : List Range) (c : ℕ) → IsPermutation xs ys → Has ys c ↔ Has xs c
permuted_members xs ys c p = (moved ys xs c (IsPermutation-sym xs ys p), moved xs ys c p)

-- one range more of a list
pub covers-take_more : (xs : List Range) (k : ℕ) (d : Range) (c : ℕ) → k < length xs →
    covers (take (k + 1) xs) c ≡ (covers (take k xs) c || is_between (get_or xs k d).low (get_or xs k d).high c)
covers-take_more xs k d c l = ap (λ ys. covers ys c) (take_more xs k d l) ∙ covers-push (take k xs) (get_or xs k d) c

-- the joined ranges cover what the first ranges of a list do, and none begins past a later one
pub record IsJoined (sorted joined : List Range) (count : ℕ) : Type 0 where
  pub members : (c : ℕ) → covers joined c ≡ covers (take count sorted) c
  pub rising : AreRising joined
  pub begin : (k : ℕ) (d : Range) → count ≤ k → k < length sorted → BeginUpTo joined (get_or sorted k d).low

pub IsJoined-more : (sorted joined more : List Range) (count : ℕ) (d : Range) (low high : ℕ) → IsNonDecreasingBy (λ (range : Range). range.low) sorted →
    count < length sorted → low ≡ (get_or sorted count d).low → high ≡ (get_or sorted count d).high → IsJoined sorted joined count →
    Joins joined more (is_between low high) low → IsJoined sorted more (count + 1)
IsJoined-more sorted joined more count d low high up l low_is high_is h joins = record {
  members = λ c.
      joins.members c
      ∙ ap (λ b. b || is_between low high c) (h.members c)
      ∙ ap (λ from. covers (take count sorted) c || is_between from high c) low_is
      ∙ ap (λ to. covers (take count sorted) c || is_between (get_or sorted count d).low to c) high_is
      ∙ sym (covers-take_more sorted count d c l);
  rising = joins.rising;
  begin = λ k e m n.
      let same : (get_or sorted count e).low ≡ (get_or sorted count d).low = ap (λ (range : Range). range.low) (get_or_default sorted count e d l) in
      begin-weaker more low (get_or sorted k e).low (omega (arith, up count k e (omega arith) n, same, low_is)) joins.begin;
}
