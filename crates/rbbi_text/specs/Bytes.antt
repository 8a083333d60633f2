-- The bytes of files: how many there may be, and the text that they spell.
use Rattle.std.specs.Prelude.{◌≡◌, ℕ, List, length, drop, nat_eq, IsUtf8, encode_utf8, if◌then◌else◌}
use Rattle.std.specs.List.{starts_with}
use Rattle.std.specs.Str.Lines.{lines}
use Rattle.std.specs.Str.Lossy.{utf8_valid_len}

-- the most bytes that are read at once: more than any file that is taken has
abbrev pub most_bytes : ℕ
most_bytes = 100663296

-- the bytes aren't UTF-8, and this is the first past their longest prefix that is
pub record IsNotUtf8At (bytes : List ℕ) (at : ℕ) : Type 0 where
  pub not_utf8 : ¬ IsUtf8 bytes
  pub at_is : at ≡ utf8_valid_len bytes

-- U+FEFF in UTF-8
abbrev pub byte_order_mark : List ℕ
byte_order_mark = encode_utf8 0xFEFF

-- the bytes after one U+FEFF at the start, where it stands there
abbrev pub without_mark : List ℕ → List ℕ
without_mark bytes = if starts_with nat_eq bytes byte_order_mark then drop (length byte_order_mark) bytes else bytes

-- the lines of a file: each ends at a line feed, which one carriage return may come before, and an empty rest is none
abbrev pub file_lines : List ℕ → List (List ℕ)
file_lines bytes = lines (without_mark bytes)
