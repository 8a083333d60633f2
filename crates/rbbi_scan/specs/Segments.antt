-- The segments between boundaries, and which of them are words.
use Rattle.std.specs.Prelude.{ℕ, Bool, not, ◌||◌, List, [], ◌∷◌, ◌++◌, if◌then◌else◌, slice_range}
use Rattle.std.specs.List.{list_any}
use Rattle.std.specs.Char.Unicode.Alphabetic.{is_alphabetic}
use Rattle.std.specs.Char.Unicode.Numeric.{is_numeric}
use Rattle.rbbi_model.specs.Boundaries.{Boundary}

-- a letter (Alphabetic) or a digit or other number (General_Category N)
abbrev pub is_letter_or_number : ℕ → Bool
is_letter_or_number c = is_alphabetic c || is_numeric c

-- one of the characters is a letter or a digit
abbrev pub is_word : List ℕ → Bool
is_word characters = list_any is_letter_or_number characters

-- a segment from one place of a text to another, and the statuses of the boundary at its end
pub record Segment : Type 0 where
  pub start : ℕ
  pub end : ℕ
  pub statuses : List ℕ

-- the segment from a place to the boundary that follows it, unless words alone are asked for and it is none
abbrev pub segment_to : Bool → List ℕ → ℕ → Boundary → List Segment
segment_to only_words x place next =
    if not only_words || is_word (slice_range x place next.at)
    then record { start = place; end = next.at; statuses = next.statuses } ∷ []
    else []

-- the segments from a place to the boundaries that follow it one after the other, or the words alone
abbrev pub segments_of : Bool → List ℕ → ℕ → List Boundary → List Segment
segments_of only_words x place [] = []
segments_of only_words x place (next ∷ others) = segment_to only_words x place next ++ segments_of only_words x next.at others
