-- Safe pairs of categories: after both, it no longer matters where the search was.
use Rattle.std.specs.Prelude.{◌≡◌, ◌≢◌, ℕ, ◌+◌, ◌*◌, ◌/◌, ◌%◌, ◌<◌, Bool, List, length, slice_index}
use Rattle.rbbi_model.specs.Places.{has_bit}
use Rattle.rbbi_model.specs.Tables.{Table, accept_of, step}

-- the row is neither row 0 nor one at which a look-ahead rule is completed
abbrev pub IsOpen : Table → ℕ → Type 0
IsOpen table row = (row ≢ 0) × (accept_of table row < 2)

-- there is one row to which every open row leads after the one category and then the other
abbrev pub IsSafePair : Table → ℕ → ℕ → Type 0
IsSafePair table first second =
    (row : ℕ) × ((from : ℕ) → from < length table.rows → IsOpen table from → step table (step table from first) second ≡ row)

-- bit number i of the bytes: eight a byte, the one of least value first
abbrev pub stored_bit : List ℕ → ℕ → Bool
stored_bit bytes i = has_bit (slice_index bytes (i / 8)) (i % 8)

-- the bit that the table stores for the pair
abbrev pub is_safe : Table → ℕ → ℕ → Bool
is_safe table first second = stored_bit table.safe (first * table.categories + second)
