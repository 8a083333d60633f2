-- Pairs of characters, and a text in which the first of each pair is turned into the second.
use Rattle.std.specs.Prelude.{ℕ, ◌==◌, List, [], ◌∷◌, map, Option, Some, None, unwrap_or, if◌then◌else◌}
use Rattle.rbbi_filter.specs.declared.pair.Pair.{Pair}

-- the second character of the pair whose first is the character, if there is one
abbrev pub second_of : List Pair → ℕ → Option ℕ
second_of [] c = None
second_of (pair ∷ pairs) c = if pair.from == c then Some pair.to else second_of pairs c

-- that second character, or where there is none, the character itself
abbrev pub turn : List Pair → ℕ → ℕ
turn pairs c = unwrap_or (second_of pairs c) c

-- the text with each character turned
abbrev pub turned : List Pair → List ℕ → List ℕ
turned pairs x = map (turn pairs) x
