-- The least and the greatest place at which a test holds, the largest of some numbers, and the bits of a number.
use Rattle.std.specs.Prelude.{ℕ, zero, suc, ◌+◌, ◌^◌, max, Bool, not, List, [], ◌∷◌, Option, Some, None, if◌then◌else◌, ◌==◌, bit_and}

-- the least of so many places from low on at which the test holds, or else the place after them
abbrev pub least_from : (ℕ → Bool) → ℕ → ℕ → ℕ
least_from test low zero = low
least_from test low (suc count) = if test low then low else least_from test (low + 1) count

-- the greatest place below high at which the test holds
abbrev pub greatest_below : (ℕ → Bool) → ℕ → Option ℕ
greatest_below test zero = None
greatest_below test (suc high) = if test high then Some high else greatest_below test high

-- how many places below high the test holds at
abbrev pub count_below : (ℕ → Bool) → ℕ → ℕ
count_below test zero = 0
count_below test (suc high) = (if test high then 1 else 0) + count_below test high

-- the largest of the numbers, or 0 where there are none
abbrev pub largest : List ℕ → ℕ
largest [] = 0
largest (n ∷ ns) = max n (largest ns)

-- bit k of the number, the one of value 2 to the power of k, is 1
abbrev pub has_bit : ℕ → ℕ → Bool
has_bit n k = not (bit_and n (2 ^ k) == 0)
