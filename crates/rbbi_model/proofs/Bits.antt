-- The bits of a number by division.
use Rattle.std.proofs.Common.{◌≡◌, ℕ, eqb, arith}
use Rattle.std.specs.Int.{bit_at}
use Rattle.std.proofs.lemmas.Bool.Decides.{nat_tests}
use Rattle.std.proofs.lemmas.Nat.Bits.{and_pow, bit_at-lt}
use Rattle.rbbi_model.specs.Places.{has_bit}

-- a bit is set where the number divided by its value is odd
pub has_bit_is : (n k : ℕ) → has_bit n k ≡ eqb (bit_at n k) 1
has_bit_is n k =
    let low = bit_at-lt n k in
    rw (and_pow n k) (grind (arith, nat_tests))
