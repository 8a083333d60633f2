-- Names and values of properties, as bytes. Letters and digits are those of ASCII.
use Rattle.std.specs.Prelude.{ℕ, Bool, not, ◌&&◌, ◌||◌, ◌==◌, List, filter, map}
use Rattle.std.specs.List.{list_any, list_all}
use Rattle.std.specs.Char.{is_ascii_alphanumeric, to_ascii_lowercase}

-- whether a byte counts in a loose form: spaces, `_` and `-` don't
abbrev pub is_counted : ℕ → Bool
is_counted byte = not ((byte == 32) || ((byte == 95) || (byte == 45)))

-- the loose form of a text: its letters in lower case, and no spaces, `_` and `-`
abbrev pub loose : List ℕ → List ℕ
loose text = map to_ascii_lowercase (filter is_counted text)

-- whether a text has a letter or digit
abbrev pub has_letter_or_digit : List ℕ → Bool
has_letter_or_digit text = list_any is_ascii_alphanumeric text

-- whether a byte may stand in a name: a letter, a digit, a space, `_`, `-` or `.`
abbrev pub is_name_byte : ℕ → Bool
is_name_byte byte = is_ascii_alphanumeric byte || ((byte == 32) || ((byte == 95) || ((byte == 45) || (byte == 46))))

-- whether a name or value is well formed
abbrev pub is_well_formed : List ℕ → Bool
is_well_formed text = has_letter_or_digit text && list_all is_name_byte text
