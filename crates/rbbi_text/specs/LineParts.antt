-- Parts of a line of a file. A line is a list of bytes. 9 is a tab, 32 a space and 35 is `#`.
use Rattle.std.specs.Prelude.{ℕ, ◌-◌, Bool, ◌||◌, ◌==◌, List, length, take, drop}
use Rattle.std.specs.List.{list_all, prefix_len, suffix_len, before_first}

-- a space or a tab
abbrev pub is_blank : ℕ → Bool
is_blank byte = (byte == 32) || (byte == 9)

-- the text without the spaces and tabs at its start
abbrev pub trim_start : List ℕ → List ℕ
trim_start text = drop (prefix_len is_blank text) text

-- the text without the spaces and tabs at its end
abbrev pub trim_end : List ℕ → List ℕ
trim_end text = take (length text - suffix_len is_blank text) text

-- the text without the spaces and tabs round it
abbrev pub trim : List ℕ → List ℕ
trim text = trim_end (trim_start text)

-- the line before its first `#`
abbrev pub before_comment : List ℕ → List ℕ
before_comment line = before_first (λ byte. byte == 35) line

-- whether a line is skipped: nothing but spaces and tabs stands before its first `#`
abbrev pub is_skipped : List ℕ → Bool
is_skipped line = list_all is_blank (before_comment line)
