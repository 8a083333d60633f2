-- Members of a list of numbers, and lists that rise.
use Rattle.std.specs.Prelude.{◌≡◌, ℕ, ◌<◌, ◌⊎◌, List, [], ◌∷◌}

-- the number stands in the list
abbrev pub Member : List ℕ → ℕ → Type 0
Member [] n = ⊥
Member (m ∷ ms) n = (m ≡ n) ⊎ Member ms n

-- each number is less than the next
abbrev pub IsRising : List ℕ → Type 0
IsRising [] = Unit {0}
IsRising (m ∷ []) = Unit {0}
IsRising (m ∷ n ∷ ns) = (m < n) × IsRising (n ∷ ns)
