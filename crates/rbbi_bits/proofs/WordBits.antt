-- Bits of a word, as tests and as numbers.
use Rattle.std.proofs.Common.{◌≡◌, ◌≢◌, ℕ, zero, suc, ◌-◌, ◌^◌, ◌<◌, true, false, not, ◌||◌, ◌&&◌, eqb, min, max, refl, sym, ap, ◌∙◌, arith}
use Rattle.std.specs.Int.{bit_at, bit_not, w64}
use Rattle.std.specs.Prelude.{bit_and}
use Rattle.std.specs.Int.RustNames.{bit_or}
use Rattle.std.proofs.lemmas.Bool.{eqb-true}
use Rattle.std.proofs.lemmas.Nat.Bits.{bit_at-lt, bit_at_or, bit_at_and, bit_at_not, bit_at-zero, bit_at-trailing_zeros, same_from_bits_below}
use Rattle.rbbi_model.specs.Places.{has_bit}
use Rattle.rbbi_model.proofs.Bits.{has_bit_is}

-- a bit is set where it is the number 1
pub set_from_one : (n k : ℕ) → bit_at n k ≡ 1 → has_bit n k ≡ true
set_from_one n k one = has_bit_is n k ∙ ap (λ m. eqb m 1) one

pub one_from_set : (n k : ℕ) → has_bit n k ≡ true → bit_at n k ≡ 1
one_from_set n k set = eqb-true (bit_at n k) 1 (sym (has_bit_is n k) ∙ set)

pub no_bit : (k : ℕ) → has_bit 0 k ≡ false
no_bit k = has_bit_is 0 k ∙ ap (λ n. eqb n 1) (bit_at-zero k)

either_is_one : (a b : ℕ) → a < 2 → b < 2 → eqb (max a b) 1 ≡ (eqb a 1 || eqb b 1)
either_is_one zero zero h g = refl
either_is_one zero (suc zero) h g = refl
either_is_one (suc zero) zero h g = refl
either_is_one (suc zero) (suc zero) h g = refl
either_is_one zero (suc (suc b)) h g = absurd (omega (arith, g))
either_is_one (suc zero) (suc (suc b)) h g = absurd (omega (arith, g))
either_is_one (suc (suc a)) b h g = absurd (omega (arith, h))

both_are_one : (a b : ℕ) → a < 2 → b < 2 → eqb (min a b) 1 ≡ (eqb a 1 && eqb b 1)
both_are_one zero zero h g = refl
both_are_one zero (suc zero) h g = refl
both_are_one (suc zero) zero h g = refl
both_are_one (suc zero) (suc zero) h g = refl
both_are_one zero (suc (suc b)) h g = absurd (omega (arith, g))
both_are_one (suc zero) (suc (suc b)) h g = absurd (omega (arith, g))
both_are_one (suc (suc a)) b h g = absurd (omega (arith, h))

pub has_bit_or : (a b k : ℕ) → has_bit (bit_or a b) k ≡ (has_bit a k || has_bit b k)
has_bit_or a b k =
    has_bit_is (bit_or a b) k ∙ ap (λ n. eqb n 1) (bit_at_or a b k) ∙ either_is_one (bit_at a k) (bit_at b k) (bit_at-lt a k) (bit_at-lt b k)
    ∙ ap (λ x. x || eqb (bit_at b k) 1) (sym (has_bit_is a k)) ∙ ap (λ x. has_bit a k || x) (sym (has_bit_is b k))

pub has_bit_and : (a b k : ℕ) → has_bit (bit_and a b) k ≡ (has_bit a k && has_bit b k)
has_bit_and a b k =
    has_bit_is (bit_and a b) k ∙ ap (λ n. eqb n 1) (bit_at_and a b k) ∙ both_are_one (bit_at a k) (bit_at b k) (bit_at-lt a k) (bit_at-lt b k)
    ∙ ap (λ x. x && eqb (bit_at b k) 1) (sym (has_bit_is a k)) ∙ ap (λ x. has_bit a k && x) (sym (has_bit_is b k))

-- a word that isn't 0 has a bit
pub some_bit : (n : ℕ) → n ≢ 0 → n < 2 ^ 64 → (k : ℕ) × (k < 64) × (has_bit n k ≡ true)
some_bit n some small =
    let lowest = bit_at-trailing_zeros w64 n (omega arith) small in
    (_, lowest.0, set_from_one n _ lowest.1)

-- words with the same bits are equal
pub same_words : (n m : ℕ) → n < 2 ^ 64 → m < 2 ^ 64 → ((k : ℕ) → k < 64 → has_bit n k ≡ has_bit m k) → n ≡ m
same_words n m small small' same =
    same_from_bits_below 64 n m small small' (λ k below. by_test k (bit_at n k) (bit_at m k) (bit_at-lt n k) (bit_at-lt m k)
    (sym (has_bit_is n k) ∙ same k below ∙ has_bit_is m k))
  where
    by_test : (k a b : ℕ) → a < 2 → b < 2 → eqb a 1 ≡ eqb b 1 → a ≡ b
    by_test k zero zero h g e = refl
    by_test k (suc zero) (suc zero) h g e = refl
    by_test k zero (suc zero) h g e = absurd (cc)
    by_test k (suc zero) zero h g e = absurd (cc)
    by_test k zero (suc (suc b)) h g e = absurd (omega (arith, g))
    by_test k (suc zero) (suc (suc b)) h g e = absurd (omega (arith, g))
    by_test k (suc (suc a)) b h g e = absurd (omega (arith, h))

pub has_bit_not : (n k : ℕ) → n < 2 ^ 64 → k < 64 → has_bit (bit_not w64 n) k ≡ not (has_bit n k)
has_bit_not n k small short =
    has_bit_is (bit_not w64 n) k ∙ ap (λ m. eqb m 1) (bit_at_not w64 n k small short) ∙ other (bit_at n k) (bit_at-lt n k) ∙ ap not (sym (has_bit_is n k))
  where
    other : (b : ℕ) → b < 2 → eqb (1 - b) 1 ≡ not (eqb b 1)
    other zero h = refl
    other (suc zero) h = refl
    other (suc (suc b)) h = absurd (omega (arith, h))
