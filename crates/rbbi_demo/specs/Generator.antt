-- The generator: its states, the numbers that are drawn, and the characters.
use Rattle.std.specs.Prelude.{ℕ, zero, suc, ◌+◌, ◌*◌, ◌/◌, ◌%◌, ◌^◌, List, [], ◌∷◌, ◌++◌, slice_index}

-- the state that a draw sets
unfoldable pub next_state : ℕ → ℕ
next_state state = (state * 1103515245 + 12345) % 2 ^ 31

-- the state after so many draws
unfoldable pub state_drawn : ℕ → ℕ → ℕ
state_drawn state zero = state
state_drawn state (suc draws) = next_state (state_drawn state draws)

-- The number that a draw gives: that of the draw with this number, from 1, after the state.
unfoldable pub drawn : ℕ → ℕ → ℕ
drawn state number = state_drawn state number / 256

-- the characters that are drawn, by their numbers: `a`, `b`, `c`, `1`, `2`, a space, `.` and U+0308
abbrev pub characters : List ℕ
characters = 97 ∷ 98 ∷ 99 ∷ 49 ∷ 50 ∷ 32 ∷ 46 ∷ 0x308 ∷ []

-- the character of the draw with this number
unfoldable pub drawn_character : ℕ → ℕ → ℕ
drawn_character state number = slice_index characters (drawn state number % 8)

-- the characters of so many draws, in order
abbrev pub drawn_text : ℕ → ℕ → List ℕ
drawn_text state zero = []
drawn_text state (suc count) = drawn_text state count ++ drawn_character state (suc count) ∷ []
