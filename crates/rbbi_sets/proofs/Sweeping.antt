-- A set that is made by a pass over the code points, stretch by stretch.
use Rattle.std.proofs.Common.{◌≡◌, ℕ, ◌+◌, ◌<◌, ◌≤◌, Bool, List, [], ◌∷◌, ◌↔◌, ◌⊎◌, sym, ◌∙◌, inl, inr, arith}
use Rattle.std.specs.Prelude.{IsTrue}
use Rattle.std.proofs.lemmas.Bool.{cases_lt}
use Rattle.std.proofs.lemmas.Bool.Decides.{Decides-or}
use Rattle.rbbi_model.specs.Ranges.{Range, Has}
use Rattle.rbbi_sets.specs.Covers.{covers, is_between}
use Rattle.rbbi_sets.specs.Rising.{AreRising, AreRisingFrom}
use Rattle.rbbi_sets.specs.inner.Rising.{BeginUpTo}
use Rattle.rbbi_sets.specs.inner.Joins.{Joins}
use Rattle.rbbi_sets.specs.inner.Sweeps.{Combined}
use Rattle.rbbi_sets.specs.declared.sweep.Operation.{Operation}
use Rattle.rbbi_sets.specs.declared.sweep.Operation.TheVariants.{Union, Intersect, Minus}
use Rattle.rbbi_sets.proofs.Coverage.{Decides-covers, Decides-is_between}

-- the ranges have the code points before this one that are wanted
pub record HaveUpTo (Wanted : ℕ → Type 0) (ranges : List Range) (end : ℕ) : Type 0 where
  pub members : (c : ℕ) → Has ranges c ↔ ((c < end) × Wanted c)
  pub rising : AreRising ranges

module _ (Wanted : ℕ → Type 0) (ranges : List Range) (start next : ℕ) (h : HaveUpTo Wanted ranges start) where
  -- past code points that aren't wanted
  pub have-skip : start ≤ next → ((c : ℕ) → start ≤ c → c < next → ¬ Wanted c) → HaveUpTo Wanted ranges next
  have-skip l none = record {
    members = λ c. (
      λ g. let old = (h.members c).0 g in (omega (arith, old.0), old.1),
      λ g. elim (cases_lt c start) [
        | inl before ↦ (h.members c).1 (before, g.1)
        | inr from ↦ absurd (none c from g.0 g.1)
      ],
    );
    rising = h.rising;
  }

  -- past code points that are wanted, and were added
  pub have-more : (more : List Range) (high : ℕ) → high + 1 ≡ next → start < next → ((c : ℕ) → start ≤ c → c < next → Wanted c) →
      ((c : ℕ) → Has more c ↔ (Has ranges c ⊎ ((start ≤ c) × (c ≤ high)))) → AreRising more → HaveUpTo Wanted more next
  have-more more high end l all joined rising = record {
    members = λ c. (
      λ g. elim ((joined c).0 g) [
        | inl old ↦ let before = (h.members c).0 old in (omega (arith, before.0), before.1)
        | inr inside ↦ let within : c < next = omega (arith, inside.1) in (within, all c inside.0 within)
      ],
      λ g. elim (cases_lt c start) [
        | inl before ↦ (joined c).1 (inl ((h.members c).1 (before, g.1)))
        | inr from ↦ (joined c).1 (inr (from, omega (arith, g.0)))
      ],
    );
    rising = rising;
  }

-- what an operation keeps is told by what the sets have
pub combined-iff : (operation : Operation) {P Q R S : Type 0} → (P ↔ R) → (Q ↔ S) → Combined operation P Q ↔ Combined operation R S
combined-iff Union p q =
    (λ h. elim h [ inl x ↦ inl (p.0 x) | inr y ↦ inr (q.0 y) ], λ h. elim h [ inl x ↦ inl (p.1 x) | inr y ↦ inr (q.1 y) ])
combined-iff Intersect p q = (λ h. (p.0 h.0, q.0 h.1), λ h. (p.1 h.0, q.1 h.1))
combined-iff Minus p q = (λ h. (p.0 h.0, λ s. h.1 (q.1 s)), λ h. (p.1 h.0, λ r. h.1 (q.0 r)))

-- and is in one of the two
pub combined-some : (operation : Operation) {P Q : Type 0} → Combined operation P Q → P ⊎ Q
combined-some Union h = h
combined-some Intersect h = inl h.0
combined-some Minus h = inl h.0

-- membership by the test
pub has-iff : (xs : List Range) (c : ℕ) (b : Bool) → covers xs c ≡ b → Has xs c ↔ IsTrue b
has-iff xs c b e = (λ h. sym e ∙ (Decides-covers xs c).1 h, λ t. (Decides-covers xs c).0 (e ∙ t))

-- members are code points
pub members-points : (bound : ℕ) (xs : List Range) (c : ℕ) → AreRisingFrom bound xs → Has xs c → c ≤ 0x10FFFF
members-points bound [] c r h = absurd h
members-points bound (x ∷ xs) c r h =
    elim h [ inl inside ↦ omega (arith, r.2, inside.1) | inr later ↦ members-points (x.high + 2) xs c r.3 later ]

-- ranges begin up to a code point that no member is past
pub begin-members : (bound : ℕ) (xs : List Range) (c : ℕ) → AreRisingFrom bound xs → ((d : ℕ) → Has xs d → d ≤ c) → BeginUpTo xs c
begin-members bound [] c r h = tt
begin-members bound (x ∷ xs) c r h =
    (h x.low (inl (omega arith, r.1)), begin-members (x.high + 2) xs c r.3 (λ d m. h d (inr m)))

-- what was added, as members
pub joined-members : (old new : List Range) (low high : ℕ) → Joins old new (is_between low high) low → (c : ℕ) →
    Has new c ↔ (Has old c ⊎ ((low ≤ c) × (c ≤ high)))
joined-members old new low high joins c =
    let either = Decides-or _ _ (Decides-covers old c) (Decides-is_between low high c) in
    let now = Decides-covers new c in
    (λ g. either.0 (sym (joins.members c) ∙ now.1 g), λ g. now.0 (joins.members c ∙ either.1 g))
