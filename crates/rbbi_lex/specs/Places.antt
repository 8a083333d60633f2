-- The places of tokens.
use Rattle.std.specs.Prelude.{ℕ, ◌+◌, ◌≤◌, ◌<◌, List, [], ◌∷◌}
use Rattle.rbbi_lex.specs.declared.token.Token.{Token}

-- the places rise strictly, from the first number on, and are less than the second
abbrev pub PlacesRise : ℕ → ℕ → List Token → Type 0
PlacesRise low high [] = Unit {0}
PlacesRise low high (t ∷ ts) = (low ≤ t.place) × (t.place < high) × PlacesRise (t.place + 1) high ts
