-- The numbers of the last classes that begin up to code points.
use Rattle.std.proofs.Common.{◌≡◌, ℕ, ◌+◌, ◌<◌, ◌≤◌, zero, suc, List, [], ◌∷◌, ◌++◌, ◌↔◌, length, get_or, cond, ap, ◌∙◌, inl, inr, arith, leb, true, false}
use Rattle.std.specs.List.Sorted.{IsNonDecreasingBy, IsPartitionPoint}
use Rattle.std.proofs.Math.Numerals.{add-one}
use Rattle.std.proofs.lemmas.Bool.{cases_eq, cases_lt, le-leb, lt-leb, leb-true, leb-false}
use Rattle.std.proofs.lemmas.List.{get_or_default}
use Rattle.rbbi_classes.specs.Classes.{class_of, AreBoundsFrom, AreBounds}

-- the class of a code point from the first bound on, and before it
class-from : (bound : ℕ) (bounds : List ℕ) (c : ℕ) → bound ≤ c → class_of (bound ∷ bounds) c ≡ class_of bounds c + 1
class-from bound bounds c l = ap (λ b. cond b (class_of bounds c + 1) 0) (le-leb bound c l)

pub class-before : (bound : ℕ) (bounds : List ℕ) (c : ℕ) → c < bound → class_of (bound ∷ bounds) c ≡ 0
class-before bound bounds c l = ap (λ b. cond b (class_of bounds c + 1) 0) (lt-leb bound c l)

-- there is a class for each bound, and the first one
pub class-within : (bounds : List ℕ) (c : ℕ) → class_of bounds c ≤ length bounds
class-within [] c = omega arith
class-within (bound ∷ bounds) c =
    elim (cases_lt c bound) [
      | inl before ↦ omega (arith, class-before bound bounds c before)
      | inr from ↦ omega (arith, class-from bound bounds c from, class-within bounds c)
    ]

-- a later code point has a later class, or the same
pub class-monotone : (bounds : List ℕ) (c d : ℕ) → c ≤ d → class_of bounds c ≤ class_of bounds d
class-monotone [] c d l = omega arith
class-monotone (bound ∷ bounds) c d l =
    elim (cases_lt c bound) [
      | inl before ↦ omega (arith, class-before bound bounds c before)
      | inr from ↦ omega (arith, class-from bound bounds c from, class-from bound bounds d (omega arith), class-monotone bounds c d l)
    ]

-- each bound is past the number before them, and a code point
pub bounds-range : (before : ℕ) (bounds : List ℕ) → AreBoundsFrom before bounds → (k : ℕ) → k < length bounds →
    (before < get_or bounds k 0) × (get_or bounds k 0 ≤ 0x10FFFF)
bounds-range before [] h k l = absurd (omega arith)
bounds-range before (bound ∷ bounds) h zero l = (h.0, h.1)
bounds-range before (bound ∷ bounds) h (suc k) l =
    let rest = bounds-range bound bounds h.2 k (omega arith) in
    (omega (arith, rest.0, h.0), rest.1)

-- of two bounds the later one is greater
pub bounds-rise : (before : ℕ) (bounds : List ℕ) → AreBoundsFrom before bounds → (i j : ℕ) → i < j → j < length bounds → get_or bounds i 0 < get_or bounds j 0
bounds-rise before [] h i j l m = absurd (omega arith)
bounds-rise before (bound ∷ bounds) h i zero l m = absurd (omega arith)
bounds-rise before (bound ∷ bounds) h zero (suc j) l m = (bounds-range bound bounds h.2 j (omega arith)).0
bounds-rise before (bound ∷ bounds) h (suc i) (suc j) l m = bounds-rise bound bounds h.2 i j (omega arith) (omega arith)

-- a bound is where the class past its number begins
pub class-past : (before : ℕ) (bounds : List ℕ) → AreBoundsFrom before bounds → (k c : ℕ) → k < length bounds →
    (k < class_of bounds c) ↔ (get_or bounds k 0 ≤ c)
class-past before [] h k c l = absurd (omega arith)
class-past before (bound ∷ bounds) h zero c l =
    elim (cases_lt c bound) [
      | inl early ↦ let none = class-before bound bounds c early in (λ g. absurd (omega arith), λ g. absurd (omega arith))
      | inr from ↦ let some = class-from bound bounds c from in (λ g. from, λ g. omega arith)
    ]
class-past before (bound ∷ bounds) h (suc k) c l =
    let rest = class-past bound bounds h.2 k c (omega arith) in
    let range = bounds-range bound bounds h.2 k (omega arith) in
    elim (cases_lt c bound) [
      | inl early ↦ let none = class-before bound bounds c early in (λ g. absurd (omega arith), λ g. absurd (omega arith))
      | inr from ↦ let some = class-from bound bounds c from in (λ g. rest.0 (omega arith), λ g. omega (arith, rest.1 g))
    ]

-- bounds that rise to a last one, and one more
abbrev pub AreBoundsTo : ℕ → List ℕ → ℕ → Type 0
AreBoundsTo before [] last = before ≤ last
AreBoundsTo before (bound ∷ bounds) last = (before < bound) × (bound ≤ 0x10FFFF) × AreBoundsTo bound bounds last

pub bounds-push : (before : ℕ) (bounds : List ℕ) (last bound : ℕ) → AreBoundsTo before bounds last → last < bound → bound ≤ 0x10FFFF →
    AreBoundsTo before (bounds ++ bound ∷ []) bound
bounds-push before [] last bound h l m = (omega arith, m, omega arith)
bounds-push before (first ∷ bounds) last bound h l m = (h.0, h.1, bounds-push first bounds last bound h.2 l m)

pub bounds-form : (before : ℕ) (bounds : List ℕ) (last : ℕ) → AreBoundsTo before bounds last → AreBoundsFrom before bounds
bounds-form before [] last h = tt
bounds-form before (bound ∷ bounds) last h = (h.0, h.1, bounds-form bound bounds last h.2)

-- bounds rise
pub bounds-sorted : (bounds : List ℕ) → AreBounds bounds → IsNonDecreasingBy (λ n. n) bounds
bounds-sorted bounds h i j d l m =
    let first = get_or_default bounds i d 0 (omega arith) in
    let second = get_or_default bounds j d 0 m in
    elim (cases_eq i j) [
      | inl same ↦ let e = ap (λ k. get_or bounds k d) same in omega arith
      | inr apart ↦ let rise = bounds-rise 0 bounds h i j (omega arith) m in omega arith
    ]

-- where those before a place are up to a code point, and those from it on aren't, the place is the number of its class
pub class-from_point : (bounds : List ℕ) (c k : ℕ) → k ≤ length bounds →
    IsPartitionPoint (λ n. leb n c ≡ true) (λ n. leb n c ≡ false) bounds k → class_of bounds c ≡ k
class-from_point [] c k l point = omega arith
class-from_point (bound ∷ bounds) c zero l point =
    class-before bound bounds c (leb-false bound c (point.1 0 0 (omega arith) (omega arith)))
class-from_point (bound ∷ bounds) c (suc k) l point =
    let up = leb-true bound c (point.0 0 0 (omega arith) (omega arith)) in
    let rest =
    class-from_point bounds c k (omega arith)
    (λ j d a b. point.0 (suc j) d (omega arith) (omega arith), λ j d a b. point.1 (suc j) d (omega arith) (omega arith)) in
    class-from bound bounds c up ∙ ap (λ n. n + 1) rest ∙ add-one k
