-- Characters as they are printed: those that would do something to a terminal as escapes.
use Rattle.std.specs.Prelude.{ℕ, ◌+◌, ◌/◌, ◌%◌, List, [], ◌∷◌, ◌++◌, Bool, true, false, not, ◌||◌, ◌&&◌, if◌then◌else◌, ◌==◌}
use Rattle.std.specs.Prelude.{nat_lt, nat_le, codes, encode_utf8}
use Rattle.rbbi_segment.specs.declared.escapes.Within.{Within}
use Rattle.rbbi_segment.specs.declared.escapes.Within.TheVariants.{Nothing, Quotes, Json, Bare}

-- the hexadecimal digit of the number's last four bits
abbrev pub hex_digit : ℕ → ℕ
hex_digit n = if nat_lt (n % 16) 10 then 48 + n % 16 else 87 + n % 16

-- the last sixteen bits in hexadecimal
abbrev pub four_digits : ℕ → List ℕ
four_digits n = hex_digit (n / 4096) ∷ hex_digit (n / 256) ∷ hex_digit (n / 16) ∷ hex_digit n ∷ []

-- the number is one of those from the first to the last
abbrev pub is_from : ℕ → ℕ → ℕ → Bool
is_from first last n = nat_le first n && nat_le n last

-- a control character, a line or paragraph separator, or one that turns the direction of what follows
abbrev pub is_hidden : ℕ → Bool
is_hidden c =
    nat_lt c 0x20 || is_from 0x7F 0x9F c || (c == 0x61C) || is_from 0x200E 0x200F c || is_from 0x2028 0x202E c || is_from 0x2066 0x2069 c

-- printable ASCII, but for quotes and backslashes
abbrev pub is_plain : ℕ → Bool
is_plain c = is_from 0x20 0x7E c && not (c == 34) && not (c == 92)

-- the escape of a character that isn't printed as it is
abbrev pub escape_of : Within → ℕ → List ℕ
escape_of Nothing c = codes "\\u{" ++ four_digits c ++ 125 ∷ []
escape_of Quotes c = codes "\\u{" ++ four_digits c ++ 125 ∷ []
escape_of Json c = codes "\\u" ++ four_digits c
escape_of Bare c = codes "\\u{" ++ four_digits c ++ 125 ∷ []

-- quotes and backslashes are escaped here
abbrev pub is_quoted : Within → Bool
is_quoted Nothing = false
is_quoted Quotes = true
is_quoted Json = true
is_quoted Bare = false

-- each character is itself here
abbrev pub is_bare : Within → Bool
is_bare Nothing = false
is_bare Quotes = false
is_bare Json = false
is_bare Bare = true

-- the character as it is printed
abbrev pub shown : Within → ℕ → List ℕ
shown within c =
    if is_bare within then encode_utf8 c else (if c == 10 then codes "\\n" else (if c == 13 then codes "\\r" else (if c == 9 then codes "\\t" else
    (if is_quoted within && (c == 34) then 92 ∷ 34 ∷ [] else (if is_quoted within && (c == 92) then 92 ∷ 92 ∷ [] else
    (if is_hidden c then escape_of within c else encode_utf8 c))))))
