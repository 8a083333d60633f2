-- What a call that appends bytes leaves, also where memory runs out.
use Rattle.std.specs.Prelude.{◌≡◌, ℕ, List, ◌++◌, Result, Ok, Err}

-- a prefix of the bytes was appended
pub record AppendsFront (old bytes new : List ℕ) : Type 0 where
  pub front : List ℕ
  pub back : List ℕ
  pub parts : bytes ≡ front ++ back
  pub appended : new ≡ old ++ front

-- the bytes were appended; where memory ran out, a prefix of them
abbrev pub Appends : {T E : Type 0} → List ℕ → List ℕ → Result T E → List ℕ → Type 0
Appends old bytes (Ok done) new = new ≡ old ++ bytes
Appends old bytes (Err error) new = AppendsFront old bytes new
