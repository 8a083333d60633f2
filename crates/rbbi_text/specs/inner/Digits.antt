-- The last digits of a number.
use Rattle.std.specs.Prelude.{ℕ, ◌+◌, ◌/◌, ◌%◌, List, [], ◌∷◌}

-- a number below ten thousand in four digits, with zeros before it
abbrev pub four_digits : ℕ → List ℕ
four_digits n = (48 + n / 100 / 10) ∷ (48 + n / 100 % 10) ∷ (48 + n % 100 / 10) ∷ (48 + n % 100 % 10) ∷ []
