-- Noting a place for each bit of a front mask, the lowest bit first.
use Rattle.std.proofs.Common.{◌≡◌, ◌≢◌, ℕ, ◌*◌, ◌%◌, ◌^◌, ◌<◌, ◌≤◌, true, false, cond, eqb, List, length, get_or, set, sym, ap, ◌∙◌}
use Rattle.std.proofs.Common.{subst, ⊎_elim, arith, w32}
use Rattle.std.specs.Prelude.{bit_and}
use Rattle.std.specs.Int.{bit_at, bit_not, trailing_zeros}
use Rattle.std.proofs.lemmas.Bool.{cases_eq, cond-true, cond-false, cases_lt, eq-eqb, ne_eqb}
use Rattle.std.proofs.lemmas.List.{get_or-set_same, get_or-set_other, length-set}
use Rattle.std.proofs.lemmas.Nat.{and_le_l}
use Rattle.std.proofs.lemmas.Nat.Bits.{bit_at-trailing_zeros, bit_at_above, bit_at_clear_same, bit_at_clear_other}
use Rattle.rbbi_model.specs.Places.{has_bit}
use Rattle.rbbi_model.proofs.Bits.{has_bit_is}

-- the bits that are left are those below the number of places, and with them noted too all is noted
pub record IsNoted (rest fronts at : ℕ) (places before : List ℕ) : Type 0 where
  pub short : rest < 2 ^ length places
  pub noted : (k : ℕ) → k < length places → cond (has_bit rest k) at (get_or places k 0) ≡ cond (has_bit fronts k) at (get_or before k 0)

abbrev lowest : ℕ → ℕ
lowest rest = trailing_zeros w32 rest

abbrev cleared : ℕ → ℕ
cleared rest = bit_and rest (bit_not w32 (1 * 2 ^ lowest rest % 2 ^ 32))

pub lowest_within : (rest : ℕ) (places : List ℕ) → rest < 2 ^ 32 → rest ≢ 0 → rest < 2 ^ length places → lowest rest < length places
lowest_within rest places fits some short =
    let low = bit_at-trailing_zeros w32 rest (omega arith) fits in
    ⊎_elim
    (λ within. within)
    (λ above. absurd (omega (arith, low.1, bit_at_above rest (length places) (lowest rest) short above)))
    (cases_lt (lowest rest) (length places))

pub cleared_is_less : (rest : ℕ) → rest < 2 ^ 32 → rest ≢ 0 → cleared rest < rest
cleared_is_less rest fits some =
    let low = bit_at-trailing_zeros w32 rest (omega arith) fits in
    let none = bit_at_clear_same w32 rest (lowest rest) low.0 in
    let most : cleared rest ≤ rest = and_le_l rest (bit_not w32 (1 * 2 ^ lowest rest % 2 ^ 32)) in
    ⊎_elim
    (λ same. absurd (omega (arith, none, low.1, ap (λ n. bit_at n (lowest rest)) same)))
    (λ other. omega arith)
    (cases_eq (cleared rest) rest)

pub noted_more : (rest fronts at : ℕ) (places before : List ℕ) → rest < 2 ^ 32 → rest ≢ 0 → length places ≤ 32 → IsNoted rest fronts at places before →
    IsNoted (cleared rest) fronts at (set places (lowest rest) at) before
noted_more rest fronts at places before fits some few noted =
    let low = bit_at-trailing_zeros w32 rest (omega arith) fits in
    let inside = lowest_within rest places fits some noted.short in
    let long : length (set places (lowest rest) at) ≡ length places = length-set places (lowest rest) at in
    let less = cleared_is_less rest fits some in
    record {
      short = subst (λ n. cleared rest < 2 ^ n) (sym long) (omega (arith, less, noted.short));
      noted = λ k within.
          let short : k < length places = omega (arith, within, long) in
          ⊎_elim
          (λ same.
          let unset : has_bit (cleared rest) k ≡ false = has_bit_is (cleared rest) k ∙
          ne_eqb (bit_at (cleared rest) k) 1 (λ one. omega (
            arith,
            one,
            ap (λ n. bit_at (cleared rest) n) same,
            bit_at_clear_same w32 rest (lowest rest) low.0,
          )) in
          let was : has_bit rest k ≡ true = has_bit_is rest k ∙ eq-eqb (bit_at rest k) 1 (ap (λ n. bit_at rest n) same ∙ low.1) in
          cond-false (has_bit (cleared rest) k) at (get_or (set places (lowest rest) at) k 0) unset
          ∙ ap (λ n. get_or (set places (lowest rest) at) n 0) same
          ∙ get_or-set_same places (lowest rest) at 0 inside
          ∙ sym (cond-true (has_bit rest k) at (get_or places k 0) was)
          ∙ noted.noted k short)
          (λ other.
          let bit : has_bit (cleared rest) k ≡ has_bit rest k =
          has_bit_is (cleared rest) k ∙ ap (λ b. eqb b 1) (bit_at_clear_other w32 rest (lowest rest) low.0 k (omega arith) other) ∙ sym (has_bit_is rest k) in
          ap (λ b. cond b at (get_or (set places (lowest rest) at) k 0)) bit
          ∙ ap (λ n. cond (has_bit rest k) at n) (get_or-set_other places (lowest rest) k at 0 other)
          ∙ noted.noted k short)
          (cases_eq k (lowest rest));
    }
