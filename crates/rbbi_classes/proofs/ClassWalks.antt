-- What holds while one goes over the classes of a set.
use Rattle.std.proofs.Common.{◌≡◌, ℕ, ◌+◌, ◌*◌, ◌/◌, ◌%◌, ◌<◌, ◌≤◌, List, [], ◌∷◌, ◌++◌, ◌↔◌, ◌⊎◌, length, get_or, take, ap, sym, ◌∙◌, subst, inl, inr}
use Rattle.std.proofs.Common.{true, false, arith}
use Rattle.std.proofs.lemmas.Bool.{cases_lt, false≢true}
use Rattle.rbbi_model.specs.Places.{has_bit}
use Rattle.rbbi_model.specs.Words.{IsSurrogate}
use Rattle.std.proofs.lemmas.List.{take_more}
use Rattle.rbbi_model.specs.Ranges.{Range, InRange, Has}
use Rattle.rbbi_classes.specs.Classes.{class_of, ClassBits, word_at, class_bit, HasClass, HasMember, AreBounds, IsFirstOfClass}
use Rattle.rbbi_classes.specs.inner.ClassRanges.{AreSurrogates}
use Rattle.rbbi_classes.specs.Divisions.{first_of}
use Rattle.rbbi_sets.proofs.Coverage.{has-append}
use Rattle.rbbi_classes.proofs.ClassWords.{not-in_zero, word_at-before}
use Rattle.rbbi_classes.proofs.FirstCodePoints.{first-is_first, first-is_point, class-of_first, first-of_class}

-- the set has no member of the classes from one to before another
abbrev pub HasNone : List ℕ → ClassBits → ℕ → ℕ → Type 0
HasNone bounds set from to = (c : ℕ) → HasMember bounds set c → from ≤ class_of bounds c → class_of bounds c < to → ⊥

-- a class by its word and its bit there
module _ (set : ClassBits) (i bit word : ℕ) (small : bit < 64) (is : word ≡ word_at set i) where
  there : has_bit word bit ≡ class_bit set (64 * i + bit)
  there =
      let number : (64 * i + bit) / 64 ≡ i = omega (arith, small) in
      let place : (64 * i + bit) % 64 ≡ bit = omega (arith, small) in
      ap (λ n. has_bit n bit) is ∙ sym (ap (λ n. has_bit (word_at set n) ((64 * i + bit) % 64)) number ∙ ap (λ n. has_bit (word_at set i) n) place)

  pub class-of-bit : has_bit word bit ≡ true → HasClass set (64 * i + bit)
  class-of-bit one = sym there ∙ one

  pub no-class-of-bit : (bounds : List ℕ) → has_bit word bit ≡ false → HasNone bounds set (64 * i + bit) (64 * i + (bit + 1))
  no-class-of-bit bounds none c member from to =
      let same : class_of bounds c ≡ 64 * i + bit = omega arith in
      false≢true (sym none ∙ there ∙ subst (λ k. HasClass set k) same member.1)

-- a set has no class in front of its words
pub none-before : (bounds : List ℕ) (set : ClassBits) → HasNone bounds set 0 (64 * set.from)
none-before bounds set c member from to =
    not-in_zero set (class_of bounds c) (word_at-before set (class_of bounds c / 64) (omega (arith, to))) member.1

-- a word that is 0 has no class
pub zero-has-none : (bounds : List ℕ) (set : ClassBits) (i c : ℕ) → word_at set i ≡ 0 → class_of bounds c / 64 ≡ i → HasMember bounds set c → ⊥
zero-has-none bounds set i c zero word member = not-in_zero set (class_of bounds c) (ap (λ n. word_at set n) word ∙ zero) member.1

pub no-class-of-zero : (bounds : List ℕ) (set : ClassBits) (i : ℕ) → word_at set i ≡ 0 → HasNone bounds set (64 * i) (64 * (i + 1))
no-class-of-zero bounds set i zero c member from to = zero-has-none bounds set i c zero (omega arith) member

-- past classes that the set hasn't
pub surrogates-skip : (bounds : List ℕ) (set : ClassBits) (from k next : ℕ) → AreSurrogates bounds set from k → HasNone bounds set k next →
    AreSurrogates bounds set from next
surrogates-skip bounds set from k next h none c first member l m =
    elim (cases_lt (class_of bounds c) k) [ inl before ↦ h c first member l before | inr after ↦ absurd (none c member after m) ]

-- past a part of surrogates
pub surrogates-join : (bounds : List ℕ) (set : ClassBits) (from k next : ℕ) → AreSurrogates bounds set from k → AreSurrogates bounds set k next →
    AreSurrogates bounds set from next
surrogates-join bounds set from k next h more c first member l m =
    elim (cases_lt (class_of bounds c) k) [ inl before ↦ h c first member l before | inr after ↦ more c first member after m ]

module _ (bounds : List ℕ) (form : AreBounds bounds) (set : ClassBits) (k low : ℕ) (is : low ≡ first_of bounds k) where
  -- the class whose first code point is a surrogate
  pub surrogates-class : (next : ℕ) → next ≡ k + 1 → 0xD800 ≤ low → low ≤ 0xDFFF → AreSurrogates bounds set k next
  surrogates-class next after from to c first member l m =
      let class : class_of bounds c ≡ k = omega arith in
      let same : c ≡ low = sym (first-of_class bounds form c first) ∙ ap (λ n. first_of bounds n) class ∙ sym is in
      (omega arith, omega arith)

  -- the class whose first code point is a character
  pub character-of-class : k ≤ length bounds → HasClass set k → (low < 0xD800) ⊎ (0xDFFF < low) →
      (c : ℕ) × IsFirstOfClass bounds c × HasMember bounds set c × ¬ IsSurrogate c
  character-of-class within has some =
      let class : class_of bounds low ≡ k = ap (λ n. class_of bounds n) is ∙ class-of_first bounds form k within in (
        low,
        subst (λ n. IsFirstOfClass bounds n) (sym is) (first-is_first bounds k within),
        (omega (arith, is, first-is_point bounds form k within), subst (λ n. HasClass set n) (sym class) has),
        λ s. elim some [ inl before ↦ omega (arith, s.0, before) | inr behind ↦ omega (arith, s.1, behind) ],
      )

-- the classes of one range more
pub classes-more : (bounds : List ℕ) (old more new : ClassBits) (xs : List Range) (k : ℕ) (range : Range) → k < length xs → range ≡ get_or xs k range →
    ((c : ℕ) → IsFirstOfClass bounds c → HasMember bounds old c ↔ Has (take k xs) c) →
    ((c : ℕ) → IsFirstOfClass bounds c → HasMember bounds more c ↔ InRange range c) →
    ((c : ℕ) → HasMember bounds new c ↔ (HasMember bounds old c ⊎ HasMember bounds more c)) →
    (c : ℕ) → IsFirstOfClass bounds c → HasMember bounds new c ↔ Has (take (k + 1) xs) c
classes-more bounds old more new xs k range inside is before here joined c first =
    let split = take_more xs k range inside ∙ ap (λ r. take k xs ++ r ∷ []) (sym is) in
    let either = has-append (take k xs) (range ∷ []) c in
    rw split (
      λ g. elim ((joined c).0 g) [ inl a ↦ either.1 (inl ((before c first).0 a)) | inr b ↦ either.1 (inr (inl ((here c first).0 b))) ],
      λ g. elim (either.0 g) [
        | inl a ↦ (joined c).1 (inl ((before c first).1 a))
        | inr b ↦ elim b [ inl in_range ↦ (joined c).1 (inr ((here c first).1 in_range)) | inr none ↦ absurd none ]
      ],
    )
