-- What is taken from a reader, where it tells which bytes it still has.
use Rattle.std.specs.Prelude.{◌≤◌, ℕ, List, Option, length}
use Rattle.std.specs.Io.KnownBytes.{Consumes}

-- a reader lost a prefix of its bytes between two moments, of this many bytes at most
abbrev pub TakesAtMost : Option (List ℕ) → Option (List ℕ) → ℕ → Type 0
TakesAtMost before now most = (taken : List ℕ) × Consumes before now taken × (length taken ≤ most)
