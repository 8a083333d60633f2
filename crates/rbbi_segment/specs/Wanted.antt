-- Which segments are asked for.
use Rattle.std.specs.Prelude.{ℕ, Bool, not, List, ◌&&◌, ◌||◌, nat_le}
use Rattle.std.specs.List.{list_any}
use Rattle.std.specs.Char.Unicode.Alphabetic.{is_alphabetic}
use Rattle.std.specs.Char.Unicode.Numeric.{is_numeric}
use Rattle.rbbi_segment.specs.declared.only.Statuses.{Statuses}
use Rattle.rbbi_segment.specs.declared.only.Wanted.{Wanted}

-- the status is asked for
abbrev pub has : Statuses → ℕ → Bool
has statuses status = nat_le statuses.least status && nat_le status statuses.greatest

-- a letter (Alphabetic) or a digit or other number (General_Category N)
abbrev pub is_letter_or_number : ℕ → Bool
is_letter_or_number c = is_alphabetic c || is_numeric c

-- one of the characters is a letter or a digit
abbrev pub is_word : List ℕ → Bool
is_word characters = list_any is_letter_or_number characters

-- a segment with these characters and this status is asked for
abbrev pub wants : Wanted → List ℕ → ℕ → Bool
wants wanted characters status = has wanted.statuses status && (not wanted.only_words || is_word characters)
