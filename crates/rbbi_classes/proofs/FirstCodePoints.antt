-- The first code points of classes.
use Rattle.std.proofs.Common.{◌≡◌, ℕ, ◌+◌, ◌<◌, ◌≤◌, zero, suc, List, [], ◌∷◌, ◌↔◌, length, get_or, ap, sym, ◌∙◌, inl, inr, arith, ltb, true, false}
use Rattle.std.specs.List.{Contains}
use Rattle.std.specs.List.Sorted.{IsPartitionPoint}
use Rattle.std.proofs.lemmas.Bool.{cases_lt, ltb-true, ltb-false}
use Rattle.std.proofs.lemmas.List.{get_or_default}
use Rattle.rbbi_classes.specs.Classes.{class_of, AreBounds, IsFirstOfClass}
use Rattle.rbbi_classes.specs.Divisions.{ClassDivision, IsDivision, first_of, stand_in}
use Rattle.rbbi_classes.specs.Steps.{number_at}
use Rattle.rbbi_classes.proofs.ClassBounds.{class-before, class-within, class-monotone, class-past, bounds-range, bounds-rise}

-- a bound of a list stands at some place, and is where the class past the number of the place begins
pub bound-place : (bounds : List ℕ) (c : ℕ) → Contains bounds c → (k : ℕ) × (k < length bounds) × (get_or bounds k 0 ≡ c)
bound-place bounds c there = (there.0, there.1, get_or_default bounds there.0 0 c there.1 ∙ there.2)

-- 0 is of the first class
pub class-of_0 : (bounds : List ℕ) → AreBounds bounds → class_of bounds 0 ≡ 0
class-of_0 [] h = omega arith
class-of_0 (bound ∷ bounds) h = class-before bound bounds 0 h.0

-- the first code point of a class is one
pub first-is_first : (bounds : List ℕ) (k : ℕ) → k ≤ length bounds → IsFirstOfClass bounds (first_of bounds k)
first-is_first bounds zero l = inl (omega arith)
first-is_first bounds (suc k) l = inr (k, omega arith, get_or_default bounds k (get_or bounds k 0) 0 (omega arith))

-- and a code point
pub first-is_point : (bounds : List ℕ) → AreBounds bounds → (k : ℕ) → k ≤ length bounds → first_of bounds k ≤ 0x10FFFF
first-is_point bounds h zero l = omega arith
first-is_point bounds h (suc k) l = (bounds-range 0 bounds h k (omega arith)).1

-- and of this class
pub class-of_first : (bounds : List ℕ) → AreBounds bounds → (k : ℕ) → k ≤ length bounds → class_of bounds (first_of bounds k) ≡ k
class-of_first bounds h zero l = class-of_0 bounds h
class-of_first bounds h (suc k) l =
    let low : ℕ = get_or bounds k 0 in
    let from : k < class_of bounds low = (class-past 0 bounds h k low (omega arith)).1 (omega arith) in
    elim (cases_lt (suc k) (length bounds)) [
      | inl inside ↦
          let rise : low < get_or bounds (suc k) 0 = bounds-rise 0 bounds h k (suc k) (omega arith) inside in
          let past = class-past 0 bounds h (suc k) low inside in
          elim (cases_lt (suc k) (class_of bounds low)) [ inl more ↦ absurd (omega (arith, past.0 more)) | inr less ↦ omega arith ]
      | inr last ↦ omega (arith, class-within bounds low)
    ]

-- and each first code point of some class is that of its own
pub first-of_class : (bounds : List ℕ) → AreBounds bounds → (c : ℕ) → IsFirstOfClass bounds c → first_of bounds (class_of bounds c) ≡ c
first-of_class bounds h c (inl none) =
    ap (λ n. first_of bounds (class_of bounds n)) none ∙ ap (λ n. first_of bounds n) (class-of_0 bounds h) ∙ sym none
first-of_class bounds h c (inr there) =
    let place = bound-place bounds c there in
    let k : ℕ = place.0 in
    let same : class_of bounds c ≡ suc k = ap (λ n. class_of bounds n) (sym place.2) ∙ class-of_first bounds h (suc k) (omega (arith, place.1)) in
    ap (λ n. first_of bounds n) same ∙ place.2

-- each is a code point
pub first-point : (bounds : List ℕ) → AreBounds bounds → (c : ℕ) → IsFirstOfClass bounds c → c ≤ 0x10FFFF
first-point bounds h c (inl none) = omega arith
first-point bounds h c (inr there) =
    let place = bound-place bounds c there in
    let range = bounds-range 0 bounds h place.0 place.1 in
    omega (arith, place.2, range.1)

-- of the first code points of classes those up to a code point are those of the classes up to its class
pub first-up_to : (bounds : List ℕ) → AreBounds bounds → (high c : ℕ) → IsFirstOfClass bounds c → (class_of bounds c ≤ class_of bounds high) ↔ (c ≤ high)
first-up_to bounds h high c (inl none) = (λ l. omega arith, λ l. class-monotone bounds c high l)
first-up_to bounds h high c (inr there) =
    let place = bound-place bounds c there in
    let k : ℕ = place.0 in (
      λ l.
          let own : k < class_of bounds c = (class-past 0 bounds h k c place.1).1 (omega (arith, place.2)) in
          omega (arith, place.2, (class-past 0 bounds h k high place.1).0 (omega arith)),
      λ l. class-monotone bounds c high l,
    )

-- where the bounds before a place are before a code point, and those from it on aren't, so many classes and the first one begin before it
pub first-from_point : (bounds : List ℕ) → AreBounds bounds → (low k : ℕ) → 0 < low →
    IsPartitionPoint (λ n. ltb n low ≡ true) (λ n. ltb n low ≡ false) bounds k → (c : ℕ) → IsFirstOfClass bounds c →
    (k + 1 ≤ class_of bounds c) ↔ (low ≤ c)
first-from_point bounds h low k some point c first = (from, past first) where
  from : k + 1 ≤ class_of bounds c → low ≤ c
  from l =
      let inside : k < length bounds = omega (arith, class-within bounds c) in
      let begun = (class-past 0 bounds h k c inside).0 (omega arith) in
      let later = ltb-false (get_or bounds k 0) low (point.1 k 0 (omega arith) inside) in
      omega arith

  past : IsFirstOfClass bounds c → low ≤ c → k + 1 ≤ class_of bounds c
  past (inl none) l = absurd (omega arith)
  past (inr there) l =
      let place = bound-place bounds c there in
      let j : ℕ = place.0 in
      let own : j < class_of bounds c = (class-past 0 bounds h j c place.1).1 (omega (arith, place.2)) in
      elim (cases_lt j k) [
        | inl sooner ↦ absurd (omega (arith, place.2, ltb-true (get_or bounds j 0) low (point.0 j 0 (omega arith) sooner)))
        | inr later ↦ omega arith
      ]

-- the code point that stands for all of a class is the first one of it
pub stand-in_is_first : (division : ClassDivision) → IsDivision division → (c : ℕ) → c ≤ 0x10FFFF → IsFirstOfClass division.bounds (stand_in division c)
stand-in_is_first division h c l = first-is_first division.bounds (number_at division.steps c) (h.within c l)

-- and a code point
pub stand-in_is_point : (division : ClassDivision) → IsDivision division → (c : ℕ) → c ≤ 0x10FFFF → stand_in division c ≤ 0x10FFFF
stand-in_is_point division h c l = first-is_point division.bounds h.bounds (number_at division.steps c) (h.within c l)

-- and its class is that of those that it stands for
pub class-of_stand_in : (division : ClassDivision) → IsDivision division → (c : ℕ) → c ≤ 0x10FFFF →
    class_of division.bounds (stand_in division c) ≡ number_at division.steps c
class-of_stand_in division h c l = class-of_first division.bounds h.bounds (number_at division.steps c) (h.within c l)
