-- Tests of a character.
use Prim.Native.Char.{code}
use Rattle.std.specs.Prelude.{ℕ, Bool, false, not, ◌||◌, ◌&&◌, ◌==◌, nat_le, Option, None, Some}
use Rattle.std.specs.Char.{is_ascii_alphanumeric, is_ascii_control}
use Rattle.unicode.specs.Binary.{is_pattern_white_space}
use Rattle.unicode.specs.GeneralCategory.{general_category}
use Rattle.unicode.specs.GeneralCategoryGroup.{in_group}
use Rattle.unicode.specs.declared.properties.GeneralCategoryGroup.TheVariants.{Letter, Number}
use Rattle.rbbi_lex.specs.Signs.{carriage_return, line_feed, line_separator, next_line}

-- a line terminator
abbrev pub is_line_end : ℕ → Bool
is_line_end c = c == line_feed || c == carriage_return || c == next_line || c == line_separator

-- an ASCII letter, a digit or `_`
abbrev pub is_word_character : ℕ → Bool
is_word_character c = is_ascii_alphanumeric c || c == code "_"

-- a character that stands for itself with no quote and no escape: an ASCII letter or digit, an ASCII control character
-- that is no white space, or any past ASCII
abbrev pub is_bare : ℕ → Bool
is_bare c = is_ascii_alphanumeric c || (is_ascii_control c && not (is_pattern_white_space c)) || nat_le 0x80 c

-- a name begins with `_` or a letter, which is a character of the general category L
abbrev pub is_name_start : ℕ → Bool
is_name_start c = c == code "_" || in_group Letter (general_category c)

-- and goes on with these and with characters of the general category N
abbrev pub is_name_character : ℕ → Bool
is_name_character c = is_name_start c || in_group Number (general_category c)

-- there is a character, and it is this one
abbrev pub is_sign : Option ℕ → ℕ → Bool
is_sign None sign = false
is_sign (Some c) sign = c == sign

-- there is a character, and it passes the test
abbrev pub passes : (ℕ → Bool) → Option ℕ → Bool
passes test None = false
passes test (Some c) = test c
