-- A window of a text: characters of it that stand next to each other.
use Rattle.std.specs.Prelude.{◌≡◌, ◌≤◌, ℕ, List, ◌++◌, length, drop}

-- the window has the characters of the text from a place on, up to those that are left
pub record IsWindow (place : ℕ) (window rest x : List ℕ) : Type 0 where
  pub within : place ≤ length x
  pub after : drop place x ≡ window ++ rest
