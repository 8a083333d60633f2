-- A conformance test.
use Rattle.std.specs.Prelude.{ℕ, Bool, List}

-- a text, and for each of its characters whether a boundary is marked after it; the number of the line, from 1
pub record Test : Type 0 where
  pub line : ℕ
  pub text : List ℕ
  pub marks : List Bool
