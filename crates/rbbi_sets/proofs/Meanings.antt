-- What the members of a set are, from what its list of ranges covers.
use Rattle.std.proofs.Common.{◌≡◌, ℕ, ◌+◌, ◌<◌, ◌≤◌, suc, length, Bool, List, [], ◌∷◌, get_or, sym, ◌∙◌, inl, inr, arith, ◌⊎◌, ◌↔◌, Decides}
use Rattle.rbbi_model.specs.Words.{IsSurrogate}
use Rattle.rbbi_model.specs.Ranges.{Range, Has}
use Rattle.rbbi_sets.specs.Covers.{covers}
use Rattle.rbbi_sets.specs.Rising.{AreRisingFrom, AreRising}
use Rattle.rbbi_sets.proofs.Coverage.{Decides-covers, covers-at}
use Rattle.rbbi_sets.proofs.Rise.{rising-range}

iff_from : {P Q : Type 0} (x y : Bool) → x ≡ y → Decides x P → Decides y Q → P ↔ Q
iff_from x y e p q = (λ h. q.0 (sym e ∙ p.1 h), λ h. p.0 (e ∙ q.1 h))

pub same_members : (xs ys : List Range) (c : ℕ) → covers xs c ≡ covers ys c → Has xs c ↔ Has ys c
same_members xs ys c e = iff_from _ _ e (Decides-covers xs c) (Decides-covers ys c)

-- all members lie from the bound on
pub members_from : (bound : ℕ) (xs : List Range) (c : ℕ) → AreRisingFrom bound xs → Has xs c → bound ≤ c
members_from bound [] c r h = absurd h
members_from bound (x ∷ xs) c r h =
    elim h [
      | inl inside ↦ omega (arith, r.0, inside.0)
      | inr later ↦ omega (arith, r.0, r.1, members_from (x.high + 2) xs c r.3 later)
    ]

pub first_is_least : (xs : List Range) (d : Range) (c : ℕ) → AreRising xs → Has xs c → (get_or xs 0 d).low ≤ c
first_is_least [] d c r h = absurd h
first_is_least (x ∷ xs) d c r h = members_from x.low (x ∷ xs) c (omega arith, r.1, r.2, r.3) h

-- a range that isn't within the surrogates has a character
pub character_of_range : (xs : List Range) (i : ℕ) (d : Range) → AreRising xs → i < length xs →
    ((get_or xs i d).low < 0xD800) ⊎ (0xDFFF < (get_or xs i d).high) → (c : ℕ) × Has xs c × ¬ IsSurrogate c
character_of_range xs i d rises inside some =
    let range = rising-range 0 xs rises i d inside in
    elim some [
      | inl before ↦ (
        (get_or xs i d).low,
        (Decides-covers xs _).0 (covers-at xs i d (get_or xs i d).low inside (omega arith) range.0),
        λ s. omega (arith, s.0, before),
      )
      | inr behind ↦ (
        (get_or xs i d).high,
        (Decides-covers xs _).0 (covers-at xs i d (get_or xs i d).high inside range.0 (omega arith)),
        λ s. omega (arith, s.1, behind),
      )
    ]

-- where each range is within the surrogates, so is each member
pub surrogates_alone : (xs : List Range) (c : ℕ) →
    ((k : ℕ) (d : Range) → k < length xs → (0xD800 ≤ (get_or xs k d).low) × ((get_or xs k d).high ≤ 0xDFFF)) → Has xs c → IsSurrogate c
surrogates_alone [] c all h = absurd h
surrogates_alone (x ∷ xs) c all h =
    elim h [
      | inl inside ↦ let here = all 0 x (omega arith) in (omega (arith, here.0, inside.0), omega (arith, here.1, inside.1))
      | inr later ↦ surrogates_alone xs c (λ k d l. all (suc k) d (omega arith)) later
    ]
