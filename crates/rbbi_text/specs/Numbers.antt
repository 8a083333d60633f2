-- The numbers that digits write.
use Rattle.std.specs.Prelude.{ℕ, ◌+◌, ◌*◌, nat_lt, nat_le, ◌&&◌, List, length, Option, Some, None, if◌then◌else◌}
use Rattle.std.specs.List.{fold, list_all}
use Rattle.std.specs.Char.{digit_value, is_ascii_digit, is_ascii_hexdigit}

-- the number that these digits write in this base, where a digit is a letter past 9
abbrev pub number : ℕ → List ℕ → ℕ
number base digits = fold (λ value c. base * value + digit_value c) 0 digits

-- the number, where it is at most this
abbrev pub at_most : ℕ → ℕ → Option ℕ
at_most most n = if nat_le n most then Some n else None

-- the number that one decimal digit or more write, where it is at most this
abbrev pub decimal : ℕ → List ℕ → Option ℕ
decimal most text = if list_all is_ascii_digit text && nat_lt 0 (length text) then at_most most (number 10 text) else None

-- the number that so many hexadecimal digits of either case write, from the fewest to the longest, where it is at most this
abbrev pub hexadecimal : ℕ → ℕ → ℕ → List ℕ → Option ℕ
hexadecimal fewest longest most text =
    if list_all is_ascii_hexdigit text && (nat_le fewest (length text) && nat_le (length text) longest) then at_most most (number 16 text) else None
