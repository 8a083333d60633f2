-- Escapes, by their table: what the characters after a `\` stand for.
use Prim.Native.Char.{code}
use Rattle.std.specs.Prelude.{ℕ, ◌≡◌, ◌+◌, ◌<◌, ◌≤◌, min, ◌==◌, if◌then◌else◌, IsTrue, List, slice_get, slice_range, Option}
use Rattle.std.specs.Char.{IsScalar, is_ascii_alphanumeric}
use Rattle.rbbi_text.specs.Numbers.{number}
use Rattle.rbbi_lex.specs.Signs.{backspace, bell, carriage_return, escape_character, form_feed, line_feed, tab, vertical_tab}
use Rattle.rbbi_lex.specs.declared.escape.Form.{Form}
use Rattle.rbbi_lex.specs.declared.escape.Form.TheVariants.{FourDigits, EightDigits, BracedDigits, FewDigits, StandsFor, Unknown}
use Rattle.rbbi_lex.specs.declared.stretch.Stretch.TheVariants.{HexadecimalDigits}
use Rattle.rbbi_lex.specs.Characters.{is_sign}
use Rattle.rbbi_lex.specs.Stretches.{stretch_end}
use Rattle.rbbi_lex.specs.Points.{CharacterAt, is_at}

-- the form of an escape, by the character after the `\` and the next one
unfoldable pub form_of : ℕ → Option ℕ → Form
form_of c next =
    if c == code "u" then FourDigits else
    (if c == code "U" then EightDigits else
    (if c == code "x" then (if is_sign next (code "{") then BracedDigits else FewDigits) else
    (if c == code "a" then StandsFor bell else
    (if c == code "b" then StandsFor backspace else
    (if c == code "e" then StandsFor escape_character else
    (if c == code "f" then StandsFor form_feed else
    (if c == code "n" then StandsFor line_feed else
    (if c == code "r" then StandsFor carriage_return else
    (if c == code "t" then StandsFor tab else
    (if c == code "v" then StandsFor vertical_tab else
    (if is_ascii_alphanumeric c then Unknown else StandsFor c)))))))))))

-- the digits from one place to another write this character
abbrev pub WritesCharacter : List ℕ → ℕ → ℕ → ℕ → Type 0
WritesCharacter x i j c = (c ≡ number 16 (slice_range x i j)) × IsScalar c

-- after the first two characters of an escape: so many digits
abbrev pub FixedDigits : List ℕ → ℕ → ℕ → ℕ → ℕ → Type 0
FixedDigits x n i j c =
    (i + n ≤ stretch_end HexadecimalDigits x i) × (j ≡ i + n) × WritesCharacter x i (i + n) c

-- the place at which the digits in braces end
abbrev pub braced_end : List ℕ → ℕ → ℕ
braced_end x i = stretch_end HexadecimalDigits x (i + 1)

-- one to six digits in braces
abbrev pub DigitsInBraces : List ℕ → ℕ → ℕ → ℕ → Type 0
DigitsInBraces x i j c =
    (i + 1 < braced_end x i) × (braced_end x i ≤ i + 7) × IsTrue (is_at x (braced_end x i) (code "}"))
    × (j ≡ braced_end x i + 1) × WritesCharacter x (i + 1) (braced_end x i) c

-- the place after the longer of one or two digits
abbrev pub few_end : List ℕ → ℕ → ℕ
few_end x i = min (stretch_end HexadecimalDigits x i) (i + 2)

-- one or two digits, two where they are there
abbrev pub OneOrTwoDigits : List ℕ → ℕ → ℕ → ℕ → Type 0
OneOrTwoDigits x i j c =
    (i < stretch_end HexadecimalDigits x i) × (j ≡ few_end x i) × WritesCharacter x i (few_end x i) c

-- after the first two characters an escape of this form goes on from one place to another, and
-- stands for this character
abbrev pub EscapeGoesOn : List ℕ → Form → ℕ → ℕ → ℕ → Type 0
EscapeGoesOn x FourDigits i j c = FixedDigits x 4 i j c
EscapeGoesOn x EightDigits i j c = FixedDigits x 8 i j c
EscapeGoesOn x BracedDigits i j c = DigitsInBraces x i j c
EscapeGoesOn x FewDigits i j c = OneOrTwoDigits x i j c
EscapeGoesOn x (StandsFor d) i j c = (j ≡ i) × (c ≡ d)
EscapeGoesOn x Unknown i j c = ⊥

-- from a `\` at one place to another the escape stands for this character
abbrev pub IsEscape : List ℕ → ℕ → ℕ → ℕ → Type 0
IsEscape x i j c =
    (d : ℕ) × CharacterAt x (i + 1) d
    × EscapeGoesOn x (form_of d (slice_get x (i + 2))) (i + 2) j c
