-- The three numbers of a kept segment, which lie in two of 32 bits.
use Rattle.std.specs.Prelude.{ℕ, ◌+◌, ◌*◌, ◌/◌, ◌%◌}
use Rattle.rbbi_tally.specs.declared.kept.Kept.{Kept}

-- the place, counted from the start of its piece
unfoldable pub at_of : Kept → ℕ
at_of kept = kept.place / 256

-- how far the search from it looks
unfoldable pub ahead_of : Kept → ℕ
ahead_of kept = kept.look / 16

-- the number of the status list of its end
unfoldable pub list_of : Kept → ℕ
list_of kept = kept.place % 256 + kept.look % 16 * 256
