-- Lists of ranges that rise, and neither overlap nor touch.
use Rattle.std.proofs.Common.{◌≡◌, ℕ, ◌+◌, ◌<◌, ◌≤◌, suc, zero, Bool, true, false, ◌||◌, List, [], ◌∷◌, ◌++◌, length, get_or, set, take, refl, ap, sym, ◌∙◌}
use Rattle.std.proofs.Common.{inl, inr, arith}
use Rattle.std.proofs.Math.Bool.{or_assoc}
use Rattle.std.proofs.lemmas.Bool.{cases_eq}
use Rattle.std.proofs.lemmas.List.{set_split, drop_all, take_more, take_all, get_or_default}
use Rattle.std.proofs.lemmas.Bool.Decides.{nat_tests}
use Rattle.rbbi_model.specs.Ranges.{Range}
use Rattle.rbbi_sets.specs.Covers.{is_between, covers}
use Rattle.rbbi_sets.specs.Rising.{AreRisingFrom, AreRising}
use Rattle.rbbi_sets.specs.inner.Rising.{BeginUpTo}
use Rattle.rbbi_sets.proofs.Coverage.{Decides-is_between, covers-at, covers-push}

pub rising-bound : (bound : ℕ) (xs : List Range) → AreRisingFrom bound xs → (k : ℕ) (d : Range) → k < length xs → bound ≤ (get_or xs k d).low
rising-bound bound [] h k d l = absurd (omega arith)
rising-bound bound (x ∷ xs) h zero d l = h.0
rising-bound bound (x ∷ xs) h (suc k) d l =
    let rest : x.high + 2 ≤ (get_or xs k d).low = rising-bound (x.high + 2) xs h.3 k d (omega arith) in
    omega (arith, h.0, h.1)

-- a list that begins past a bound begins past a lesser one
pub rising-weaker : (bound low : ℕ) (xs : List Range) → bound ≤ low → AreRisingFrom low xs → AreRisingFrom bound xs
rising-weaker bound low [] l h = tt
rising-weaker bound low (x ∷ xs) l h = (omega (arith, h.0), h.1, h.2, h.3)

pub rising-range : (bound : ℕ) (xs : List Range) → AreRisingFrom bound xs → (k : ℕ) (d : Range) → k < length xs →
    ((get_or xs k d).low ≤ (get_or xs k d).high) × ((get_or xs k d).high ≤ 0x10FFFF)
rising-range bound [] h k d l = absurd (omega arith)
rising-range bound (x ∷ xs) h zero d l = (h.1, h.2)
rising-range bound (x ∷ xs) h (suc k) d l = rising-range (x.high + 2) xs h.3 k d (omega arith)

pub rising-apart : (bound : ℕ) (xs : List Range) → AreRisingFrom bound xs → (i j : ℕ) (d : Range) → i < j → j < length xs →
    (get_or xs i d).high + 2 ≤ (get_or xs j d).low
rising-apart bound [] h i j d l m = absurd (omega arith)
rising-apart bound (x ∷ xs) h i zero d l m = absurd (omega arith)
rising-apart bound (x ∷ xs) h zero (suc j) d l m = rising-bound (x.high + 2) xs h.3 j d (omega arith)
rising-apart bound (x ∷ xs) h (suc i) (suc j) d l m = rising-apart (x.high + 2) xs h.3 i j d (omega arith) (omega arith)

-- of two ranges the later one begins later and ends later
pub rising-order : (xs : List Range) → AreRising xs → (i j : ℕ) (d e : Range) → i ≤ j → j < length xs →
    ((get_or xs i d).low ≤ (get_or xs j e).low) × ((get_or xs i d).high ≤ (get_or xs j e).high)
rising-order xs r i j d e l m =
    rw (get_or_default xs j e d m)
    (elim (cases_eq i j) [
      | inl same ↦ (omega (arith, ap (λ k. (get_or xs k d).low) same), omega (arith, ap (λ k. (get_or xs k d).high) same))
      | inr other ↦
          let apart = rising-apart 0 xs r i j d (omega arith) m in
          (omega (arith, apart, (rising-range 0 xs r i d (omega arith)).0), omega (arith, apart, (rising-range 0 xs r j d m).0))
    ])

-- a list is what stands before its last range, and that range
pub last_split : (xs : List Range) (n : ℕ) (d : Range) → n + 1 ≡ length xs → xs ≡ take n xs ++ get_or xs n d ∷ []
last_split xs n d e = sym (take_all (n + 1) xs (omega arith)) ∙ take_more xs n d (omega arith)

pub last_set : (xs : List Range) (n : ℕ) (y : Range) → n + 1 ≡ length xs → set xs n y ≡ take n xs ++ y ∷ []
last_set xs n y e = set_split xs n y (omega arith) ∙ ap (λ ys. take n xs ++ y ∷ ys) (drop_all (suc n) xs (omega arith))

-- the last range may end later
pub rising-joined : (bound : ℕ) (xs : List Range) (l y : Range) → AreRisingFrom bound (xs ++ l ∷ []) → y.low ≡ l.low → l.high ≤ y.high → y.high ≤ 0x10FFFF →
    AreRisingFrom bound (xs ++ y ∷ [])
rising-joined bound [] l y h e a b = (omega (arith, h.0), omega (arith, h.1), b, tt)
rising-joined bound (x ∷ xs) l y h e a b = (h.0, h.1, h.2, rising-joined (x.high + 2) xs l y h.3 e a b)

-- a range may follow that begins past the last range's end, with a gap
pub rising-push : (bound : ℕ) (xs : List Range) (l y : Range) → AreRisingFrom bound (xs ++ l ∷ []) → l.high + 2 ≤ y.low → y.low ≤ y.high → y.high ≤ 0x10FFFF →
    AreRisingFrom bound ((xs ++ l ∷ []) ++ y ∷ [])
rising-push bound [] l y h e a b = (h.0, h.1, h.2, (e, a, b, tt))
rising-push bound (x ∷ xs) l y h e a b = (h.0, h.1, h.2, rising-push (x.high + 2) xs l y h.3 e a b)

pub begin-push : (xs : List Range) (y : Range) (c : ℕ) → BeginUpTo xs c → y.low ≤ c → BeginUpTo (xs ++ y ∷ []) c
begin-push [] y c h l = (l, tt)
begin-push (x ∷ xs) y c h l = (h.0, begin-push xs y c h.1 l)

pub begin-joined : (xs : List Range) (l y : Range) (c : ℕ) → BeginUpTo (xs ++ l ∷ []) c → y.low ≡ l.low → BeginUpTo (xs ++ y ∷ []) c
begin-joined [] l y c h e = (omega (arith, h.0, e), tt)
begin-joined (x ∷ xs) l y c h e = (h.0, begin-joined xs l y c h.1 e)

pub begin-weaker : (xs : List Range) (c d : ℕ) → c ≤ d → BeginUpTo xs c → BeginUpTo xs d
begin-weaker [] c d l h = tt
begin-weaker (x ∷ xs) c d l h = (omega (arith, h.0), begin-weaker xs c d l h.1)

pub begin-at : (xs : List Range) (c : ℕ) → BeginUpTo xs c → (k : ℕ) (d : Range) → k < length xs → (get_or xs k d).low ≤ c
begin-at [] c h k d l = absurd (omega arith)
begin-at (x ∷ xs) c h zero d l = h.0
begin-at (x ∷ xs) c h (suc k) d l = begin-at xs c h.1 k d (omega arith)

-- two ranges that overlap or touch are one
joined_is : (from mid low high c : ℕ) → from ≤ low → low ≤ mid + 1 → mid ≤ high → from ≤ mid →
    is_between from high c ≡ (is_between from mid c || is_between low high c)
joined_is from mid low high c a b e f = grind (arith, nat_tests)

pub covers-joined : (xs : List Range) (l y : Range) (low c : ℕ) → y.low ≡ l.low → l.low ≤ low → low ≤ l.high + 1 → l.high ≤ y.high → l.low ≤ l.high →
    covers (xs ++ y ∷ []) c ≡ (covers (xs ++ l ∷ []) c || is_between low y.high c)
covers-joined xs l y low c e a b f g =
    covers-push xs y c
    ∙ ap (λ from. covers xs c || is_between from y.high c) e
    ∙ ap (λ t. covers xs c || t) (joined_is l.low l.high low y.high c a b f g)
    ∙ sym (or_assoc (covers xs c) (is_between l.low l.high c) (is_between low y.high c))
    ∙ ap (λ t. t || is_between low y.high c) (sym (covers-push xs l c))

or_absorbed : (x y : Bool) → (y ≡ true → x ≡ true) → x ≡ (x || y)
or_absorbed true y h = refl
or_absorbed false true h = h refl
or_absorbed false false h = refl

-- a range inside another adds nothing
pub covers-inside : (xs : List Range) (k : ℕ) (d : Range) (low high c : ℕ) → k < length xs → (get_or xs k d).low ≤ low → high ≤ (get_or xs k d).high →
    covers xs c ≡ (covers xs c || is_between low high c)
covers-inside xs k d low high c l a b =
    or_absorbed _ _ (λ t.
    let inside : (low ≤ c) × (c ≤ high) = (Decides-is_between low high c).0 t in
    covers-at xs k d c l (omega (arith, inside.0)) (omega (arith, inside.1)))
