-- Stretches: the longest pieces of a text whose characters belong together.
use Prim.Native.Char.{code}
use Rattle.std.specs.Prelude.{ℕ, false, true, ◌<◌, ◌≤◌, ◌≡◌, Bool, ◌||◌, ◌&&◌, ◌==◌, not, if◌then◌else◌, ◌+◌, List, [], ◌∷◌, drop, slice_get, Option}
use Rattle.std.specs.Char.{is_ascii_digit, is_ascii_hexdigit}
use Rattle.unicode.specs.Binary.{is_pattern_white_space}
use Rattle.rbbi_lex.specs.declared.stretch.Stretch.{Stretch}
use Rattle.rbbi_lex.specs.declared.stretch.Stretch.TheVariants.{WhiteSpace, CommentText, NameText, ControlText, Digits, HexadecimalDigits}
use Rattle.rbbi_lex.specs.declared.stretch.Stretch.TheVariants.{BracedBody, BracedName, BracketedBody, BracketedName}
use Rattle.rbbi_lex.specs.Characters.{is_line_end, is_name_character, is_word_character, is_sign, passes}

-- the stretch goes on with this character, with that one, or none, after it
abbrev pub goes_on : Stretch → ℕ → Option ℕ → Bool
goes_on WhiteSpace c next = is_pattern_white_space c
goes_on CommentText c next = not (is_line_end c)
goes_on NameText c next = is_name_character c
goes_on ControlText c next = is_word_character c
goes_on Digits c next = is_ascii_digit c
goes_on HexadecimalDigits c next = is_ascii_hexdigit c
goes_on BracedBody c next = not (is_line_end c || c == code "}")
goes_on BracedName c next = not (is_line_end c || c == code "}" || c == code "=")
goes_on BracketedBody c next = not (is_line_end c || (c == code ":" && is_sign next (code "]")))
goes_on BracketedName c next = not (is_line_end c || (c == code ":" && is_sign next (code "]")) || c == code "=")

-- how many characters from the front on belong to the stretch
abbrev pub stretch_len : Stretch → List ℕ → ℕ
stretch_len stretch [] = 0
stretch_len stretch (c ∷ x) = if goes_on stretch c (slice_get x 0) then stretch_len stretch x + 1 else 0

-- the place at which the stretch from this place on ends
abbrev pub stretch_end : Stretch → List ℕ → ℕ → ℕ
stretch_end stretch x i = i + stretch_len stretch (drop i x)

-- whether the stretch goes on at a place
abbrev pub goes_on_at : Stretch → List ℕ → ℕ → Bool
goes_on_at stretch x k = passes (λ c. goes_on stretch c (slice_get x (k + 1))) (slice_get x k)

-- the stretch goes on at each place from the first up to the second, and not at that one
abbrev pub IsLongestStretch : Stretch → List ℕ → ℕ → ℕ → Type 0
IsLongestStretch stretch x i j =
    (i ≤ j) × ((k : ℕ) → i ≤ k → k < j → goes_on_at stretch x k ≡ true) × (goes_on_at stretch x j ≡ false)
