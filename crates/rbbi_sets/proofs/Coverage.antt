-- What a list of ranges covers.
use Rattle.std.proofs.Common.{◌≡◌, ℕ, ◌<◌, ◌≤◌, suc, zero, true, false, ◌||◌, List, [], ◌∷◌, ◌++◌, length, get_or, refl, ap, ◌∙◌, inl, inr, arith, ◌⊎◌}
use Rattle.std.proofs.Common.{sym, ◌↔◌, Decides}
use Rattle.std.proofs.Math.Bool.{or_assoc, or-false}
use Rattle.std.proofs.lemmas.Bool.{false≢true, leb-true, le-leb, lt-leb, and_left, and_right, and_from, or_left, or_right}
use Rattle.std.proofs.lemmas.Bool.Decides.{Decides-and, Decides-or}
use Rattle.rbbi_model.specs.Ranges.{Range, Has}
use Rattle.rbbi_sets.specs.Covers.{is_between, covers}

pub is_between-true : (low high c : ℕ) → low ≤ c → c ≤ high → is_between low high c ≡ true
is_between-true low high c l h = and_from _ _ (le-leb low c l) (le-leb c high h)

pub is_between-below : (low high c : ℕ) → c < low → is_between low high c ≡ false
is_between-below low high c l = and_left _ _ (lt-leb low c l)

pub is_between-above : (low high c : ℕ) → high < c → is_between low high c ≡ false
is_between-above low high c h = and_right _ _ (lt-leb c high h)

pub Decides-is_between : (low high c : ℕ) → Decides (is_between low high c) ((low ≤ c) × (c ≤ high))
Decides-is_between low high c =
    Decides-and _ _ (leb-true low c, le-leb low c) (leb-true c high, le-leb c high)

pub Decides-covers : (ranges : List Range) (c : ℕ) → Decides (covers ranges c) (Has ranges c)
Decides-covers [] c = (λ e. absurd (false≢true e), λ h. absurd h)
Decides-covers (range ∷ ranges) c =
    Decides-or _ _ (Decides-is_between range.low range.high c) (Decides-covers ranges c)

pub covers-append : (xs ys : List Range) (c : ℕ) → covers (xs ++ ys) c ≡ (covers xs c || covers ys c)
covers-append [] ys c = refl
covers-append (x ∷ xs) ys c =
    ap (λ b. is_between x.low x.high c || b) (covers-append xs ys c)
    ∙ sym (or_assoc (is_between x.low x.high c) (covers xs c) (covers ys c))

pub covers-push : (xs : List Range) (y : Range) (c : ℕ) → covers (xs ++ y ∷ []) c ≡ (covers xs c || is_between y.low y.high c)
covers-push xs y c = covers-append xs (y ∷ []) c ∙ ap (λ b. covers xs c || b) (or-false (is_between y.low y.high c))

-- no range holds the code point
pub covers-none : (xs : List Range) (c : ℕ) → ((k : ℕ) (d : Range) → k < length xs → (c < (get_or xs k d).low) ⊎ ((get_or xs k d).high < c)) →
    covers xs c ≡ false
covers-none [] c h = refl
covers-none (x ∷ xs) c h =
    let rest : covers xs c ≡ false = covers-none xs c (λ k d l. h (suc k) d (omega arith)) in
    elim (h 0 x (omega arith)) [
      | inl below ↦ ap (λ b. b || covers xs c) (is_between-below x.low x.high c below) ∙ rest
      | inr above ↦ ap (λ b. b || covers xs c) (is_between-above x.low x.high c above) ∙ rest
    ]

-- the range with this number holds the code point
pub covers-at : (xs : List Range) (k : ℕ) (d : Range) (c : ℕ) → k < length xs → (get_or xs k d).low ≤ c → c ≤ (get_or xs k d).high → covers xs c ≡ true
covers-at [] k d c l a b = absurd (omega arith)
covers-at (x ∷ xs) zero d c l a b = or_left _ _ (is_between-true x.low x.high c a b)
covers-at (x ∷ xs) (suc k) d c l a b = or_right _ _ (covers-at xs k d c (omega arith) a b)

-- a list of ranges that is joined from two has what either has
pub has-append : (xs ys : List Range) (c : ℕ) → Has (xs ++ ys) c ↔ (Has xs c ⊎ Has ys c)
has-append [] ys c = (λ h. inr h, λ h. elim h [ inl g ↦ absurd g | inr g ↦ g ])
has-append (x ∷ xs) ys c =
    let rest = has-append xs ys c in (
      λ h. elim h [ inl g ↦ inl (inl g) | inr g ↦ elim (rest.0 g) [ inl k ↦ inl (inr k) | inr k ↦ inr k ] ],
      λ h. elim h [ inl g ↦ elim g [ inl k ↦ inl k | inr k ↦ inr (rest.1 (inl k)) ] | inr g ↦ inr (rest.1 (inr g)) ],
    )
