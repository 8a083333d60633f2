-- The control characters and separators that the tables of tokens name.
use Rattle.std.specs.Prelude.{ℕ}

abbrev pub tab : ℕ
tab = 0x9

abbrev pub line_feed : ℕ
line_feed = 0xA

abbrev pub vertical_tab : ℕ
vertical_tab = 0xB

abbrev pub form_feed : ℕ
form_feed = 0xC

abbrev pub carriage_return : ℕ
carriage_return = 0xD

abbrev pub next_line : ℕ
next_line = 0x85

abbrev pub line_separator : ℕ
line_separator = 0x2028

abbrev pub bell : ℕ
bell = 0x7

abbrev pub backspace : ℕ
backspace = 0x8

abbrev pub escape_character : ℕ
escape_character = 0x1B
