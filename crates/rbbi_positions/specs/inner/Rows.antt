-- Rows of bits, one after another in one list.
use Rattle.std.specs.Prelude.{ℕ, ◌+◌, ◌*◌, ◌/◌, ◌%◌, Bool, List, slice_index}
use Rattle.rbbi_model.specs.Places.{has_bit}

-- whether the row with this number has the position, where each row has so many words
abbrev pub in_row : ℕ → List ℕ → ℕ → ℕ → Bool
in_row words rows row position = has_bit (slice_index rows (row * words + position / 64)) (position % 64)
