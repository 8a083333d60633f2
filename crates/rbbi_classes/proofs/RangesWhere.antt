-- The ranges of the code points that pass a test rise, and have these code points.
use Rattle.std.proofs.Common.{◌≡◌, ℕ, zero, suc, ◌+◌, ◌<◌, ◌≤◌, ◌⊎◌, ◌↔◌, inl, inr, Bool, true, false, nat_eq, if◌then◌else◌, List, [], ◌∷◌, sym, refl, ap, ◌∙◌}
use Rattle.std.proofs.Common.{arith}
use Rattle.std.proofs.lemmas.Bool.{cases_lt}
use Rattle.std.proofs.lemmas.Bool.Decides.{nat_tests}
use Rattle.rbbi_model.specs.Ranges.{Range, Has}
use Rattle.rbbi_sets.specs.Rising.{AreRising, AreRisingFrom}
use Rattle.rbbi_classes.specs.RangesWhere.{range_between, with_first, with_code_point, ranges_where_from, ranges_where}
use Rattle.rbbi_sets.proofs.Rise.{rising-weaker}

-- a code point before ranges leaves them rising
first_rises : (c : ℕ) (rs : List Range) → c ≤ 0x10FFFF → AreRisingFrom (c + 1) rs → AreRisingFrom c (with_first c rs)
first_rises c [] low r = (omega arith, omega arith, low, tt)
first_rises c (x ∷ rs) low r =
    elim (nat_eq x.low (c + 1)) as (λ b. nat_eq x.low (c + 1) ≡ b → AreRisingFrom c (if b then range_between c x.high ∷ rs else range_between c c ∷ x ∷ rs)) [
      | true ↦ λ e. let a = r.0 in let d = r.1 in (omega arith, omega arith, r.2, r.3)
      | false ↦ λ e. let a = r.0 in let apart : c + 2 ≤ x.low = grind (arith, nat_tests) in (omega arith, omega arith, low, (apart, r.1, r.2, r.3))
    ] refl

passing_rises : (b : Bool) (c : ℕ) (rs : List Range) → c ≤ 0x10FFFF → AreRisingFrom (c + 1) rs → AreRisingFrom c (with_code_point b c rs)
passing_rises true c rs low r = first_rises c rs low r
passing_rises false c rs low r = rising-weaker c (c + 1) rs (omega arith) r

-- so many from one on rise
from_rises : (test : ℕ → Bool) (c n : ℕ) → c + n ≤ 0x110000 → AreRisingFrom c (ranges_where_from test c n)
unfolding ranges_where_from
from_rises test c zero low = tt
from_rises test c (suc n) low = passing_rises (test c) c (ranges_where_from test (c + 1) n) (omega arith) (from_rises test (c + 1) n (omega arith))

-- and adds itself
first_has : (c d : ℕ) (rs : List Range) → AreRisingFrom (c + 1) rs → Has (with_first c rs) d ↔ ((d ≡ c) ⊎ Has rs d)
first_has c d [] r = (
  λ h. elim h [ inl i ↦ (let a = i.0 in let b = i.1 in inl (omega arith)) | inr n ↦ absurd n ],
  λ w. elim w [ inl e ↦ inl (omega arith, omega arith) | inr n ↦ absurd n ],
)
first_has c d (x ∷ rs) r =
    elim (nat_eq x.low (c + 1)) as (λ b. nat_eq x.low (c + 1) ≡ b → Has (if b then range_between c x.high ∷ rs else range_between c c ∷ x ∷ rs) d ↔
    ((d ≡ c) ⊎ Has (x ∷ rs) d)) [
      | true ↦ λ e.
          let touch : x.low ≡ c + 1 = grind (arith, nat_tests) in
          let up = r.1 in (
            λ h. elim h [
              | inl i ↦ (let a = i.0 in let b = i.1 in elim (cases_lt c d) [ inl lt ↦ inr (inl (omega arith, b)) | inr ge ↦ inl (omega arith) ])
              | inr n ↦ inr (inr n)
            ],
            λ w. elim w [
              | inl s ↦ inl (omega arith, omega arith)
              | inr v ↦ elim v [ inl i ↦ (let a = i.0 in let b = i.1 in inl (omega arith, b)) | inr n ↦ inr n ]
            ],
          )
      | false ↦ λ e. (
        λ h. elim h [ inl i ↦ (let a = i.0 in let b = i.1 in inl (omega arith)) | inr n ↦ inr n ],
        λ w. elim w [ inl s ↦ inl (omega arith, omega arith) | inr v ↦ inr v ],
      )
    ] refl

-- the code points from one on, so many, that pass
abbrev IsPassing : (ℕ → Bool) → ℕ → ℕ → ℕ → Type 0
IsPassing test c n d = (c ≤ d) × (d < c + n) × (test d ≡ true)

passing_has : (test : ℕ → Bool) (b : Bool) (c n d : ℕ) (rs : List Range) → test c ≡ b → AreRisingFrom (c + 1) rs → (Has rs d ↔ IsPassing test (c + 1) n d) →
    (Has (with_code_point b c rs) d ↔ IsPassing test c (n + 1) d)
passing_has test true c n d rs e r rest =
    let own = first_has c d rs r in (
      λ h. elim (own.0 h) [
        | inl s ↦ (omega arith, omega arith, ap test s ∙ e)
        | inr v ↦ let p = rest.0 v in let a = p.0 in let b = p.1 in (omega arith, omega arith, p.2)
      ],
      λ p.
          let a = p.0 in
          let b = p.1 in
          own.1 (elim (cases_lt c d) [ inl lt ↦ inr (rest.1 (omega arith, omega arith, p.2)) | inr ge ↦ inl (omega arith) ]),
    )
passing_has test false c n d rs e r rest = (
  λ h. let p = rest.0 h in let a = p.0 in let b = p.1 in (omega arith, omega arith, p.2),
  λ p.
      let a = p.0 in
      let b = p.1 in
      elim (cases_lt c d) [
        | inl lt ↦ rest.1 (omega arith, omega arith, p.2)
        | inr ge ↦ let s : d ≡ c = omega arith in let f : true ≡ false = sym p.2 ∙ ap test s ∙ e in absurd cc
      ],
)

-- they have the ones that pass
from_has : (test : ℕ → Bool) (c n d : ℕ) → c + n ≤ 0x110000 → (Has (ranges_where_from test c n) d ↔ IsPassing test c n d)
unfolding ranges_where_from
from_has test c zero d low = (λ h. absurd h, λ p. let a = p.0 in let b = p.1 in absurd (omega arith))
from_has test c (suc n) d low =
    let s = passing_has test (test c) c n d (ranges_where_from test (c + 1) n) refl (from_rises test (c + 1) n (omega arith)) (from_has test (c + 1) n d
    (omega arith)) in
    (λ h. let p = s.0 h in let b = p.1 in (p.0, omega arith, p.2), λ p. let b = p.1 in s.1 (p.0, omega arith, p.2))

-- they rise, and neither overlap nor touch
pub ranges_where-rises : (test : ℕ → Bool) → AreRising (ranges_where test)
ranges_where-rises test = from_rises test 0 0x110000 (omega arith)

-- and have the code points that pass
pub ranges_where-has : (test : ℕ → Bool) (c : ℕ) → Has (ranges_where test) c ↔ ((c ≤ 0x10FFFF) × (test c ≡ true))
ranges_where-has test c =
    let own = from_has test 0 0x110000 c (omega arith) in
    (λ h. let p = own.0 h in let b = p.1 in (omega arith, p.2), λ p. let b = p.0 in own.1 (omega arith, omega arith, p.1))
