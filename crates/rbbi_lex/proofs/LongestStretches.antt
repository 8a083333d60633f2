-- A stretch ends at the first place at which it doesn't go on.
use Rattle.std.proofs.Common.{◌≡◌, ℕ, zero, suc, ◌+◌, ◌≤◌, inl, inr, true, false, List, length, get_or, sym, ap, subst, ◌∙◌, arith, slice_get}
use Rattle.std.proofs.lemmas.Bool.{cases_Bool, cases_lt}
use Rattle.std.proofs.lemmas.Option.{slice_get-get_or, slice_get_past, get_or_from_slice_get}
use Rattle.rbbi_lex.specs.declared.stretch.Stretch.{Stretch}
use Rattle.rbbi_lex.specs.Characters.{passes}
use Rattle.rbbi_lex.specs.Stretches.{goes_on, stretch_end, goes_on_at, IsLongestStretch}
use Rattle.rbbi_lex.proofs.StretchLemmas.{stretch_end-more, stretch_end-here, stretch_end-past}

-- a stretch that ends where it begins
ended : (stretch : Stretch) (x : List ℕ) (i : ℕ) → goes_on_at stretch x i ≡ false → stretch_end stretch x i ≡ i →
    IsLongestStretch stretch x i (stretch_end stretch x i)
ended stretch x i stops e =
    let here : IsLongestStretch stretch x i i = (omega arith, λ k a b. absurd (omega arith), stops) in
    subst (λ (j : ℕ). IsLongestStretch stretch x i j) (sym e) here

-- a stretch that goes on where it begins
longer : (stretch : Stretch) (x : List ℕ) (i j : ℕ) → goes_on_at stretch x i ≡ true → IsLongestStretch stretch x (i + 1) j → IsLongestStretch stretch x i j
longer stretch x i j goes rest = (
  omega (arith, rest.0),
  λ k a b.
      elim (cases_lt i k) [
        | inl later ↦ rest.1 k (omega arith) b
        | inr first ↦
            let same : i ≡ k = omega arith in
            subst (λ (v : ℕ). goes_on_at stretch x v ≡ true) same goes
      ],
  rest.2,
)

past : (stretch : Stretch) (x : List ℕ) (i : ℕ) → length x ≤ i → IsLongestStretch stretch x i (stretch_end stretch x i)
past stretch x i h =
    ended stretch x i (ap (passes (λ c. goes_on stretch c (slice_get x (i + 1)))) (slice_get_past x i h)) (stretch_end-past stretch x i h)

longest : (n : ℕ) (stretch : Stretch) (x : List ℕ) (i : ℕ) → length x ≤ i + n → IsLongestStretch stretch x i (stretch_end stretch x i)
longest zero stretch x i h = past stretch x i (omega arith)
longest (suc n) stretch x i h =
    elim (cases_lt i (length x)) [
      | inr outside ↦ past stretch x i outside
      | inl within ↦
          let at = slice_get-get_or x i 0 within in
          let c = get_or x i 0 in
          let read = sym (get_or_from_slice_get x i c c at) in
          let test = ap (passes (λ d. goes_on stretch d (slice_get x (i + 1)))) at in
          elim (cases_Bool (goes_on stretch c (slice_get x (i + 1)))) [
            | inr stops ↦ ended stretch x i (test ∙ stops) (stretch_end-here stretch x i c within read stops)
            | inl goes ↦
                let rest = longest n stretch x (i + 1) (omega arith) in
                let e = stretch_end-more stretch x i c within read goes in
                longer stretch x i (stretch_end stretch x i) (test ∙ goes) (subst (λ (j : ℕ). IsLongestStretch stretch x (i + 1) j) (sym e) rest)
          ]
    ]

-- a stretch ends at the first place at which it doesn't go on
pub stretch_end-longest : (stretch : Stretch) (x : List ℕ) (i : ℕ) → IsLongestStretch stretch x i (stretch_end stretch x i)
stretch_end-longest stretch x i = longest (length x) stretch x i (omega arith)
