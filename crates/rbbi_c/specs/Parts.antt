-- A part of a session's text, read back.
use Rattle.std.specs.Prelude.{◌≡◌, ℕ, ◌<◌, ◌≤◌, ◌⊎◌, List, length, Option, None, Some, slice_range, encode_utf8_all}
use Rattle.rbbi_model.specs.declared.unit.Unit.{Unit as TextUnit}
use Rattle.rbbi_model.specs.Units.{offset_of}
use Rattle.rbbi_model.specs.UnitAnswers.{place_at}
use Rattle.rbbi_c.specs.Copying.{IsCopied, room_code}
use Rattle.rbbi_c.specs.Sorts.{OfSession}
use Rattle.rbbi_c.specs.declared.held.Held.{Held}

-- the characters of the text between two numbers, in UTF-8
pub record IsPart (unit : TextUnit) (x : List ℕ) (from to : ℕ) (bytes : List ℕ) : Type 0 where
  pub first : ℕ
  pub last : ℕ
  pub first_is : place_at unit x from ≡ Some first
  pub last_is : place_at unit x to ≡ Some last
  pub spelled : bytes ≡ encode_utf8_all (slice_range x first last)

-- Why no part is read: a number lies past the text's end, or the second one before the first; otherwise one is inside of a character; or
-- memory ran out.
abbrev pub IsNoPart : TextUnit → List ℕ → ℕ → ℕ → ℕ → Type 0
IsNoPart unit x from to code =
    ((code ≡ 5) × ((to < from) ⊎ (offset_of unit x (length x) < to)))
    ⊎ ((code ≡ 6) × (from ≤ to) × (to ≤ offset_of unit x (length x)) × ((place_at unit x from ≡ None) ⊎ (place_at unit x to ≡ None)))
    ⊎ (code ≡ 9)

-- as much of the part is written as there is room for, and its length
pub record IsPartWritten (unit : TextUnit) (x : List ℕ) (from to : ℕ) (before after : List ℕ) (code count : ℕ) : Type 0 where
  pub bytes : List ℕ
  pub part : IsPart unit x from to bytes
  pub copied : IsCopied bytes before after
  pub counted : count ≡ length bytes
  pub code_is : code ≡ room_code count (length before)

-- what reading a part of the text answers through a handle, which it leaves
abbrev pub ReadsPartThrough : Option Held → ℕ → ℕ → List ℕ → List ℕ → ℕ → ℕ → ℕ → Option Held → Type 0
ReadsPartThrough held from to before after code count_before count now =
    (now ≡ held)
    × OfSession held ((code ≡ 3) × (after ≡ before) × (count ≡ count_before))
    (λ A Setting sort old. IsPartWritten (sort.unit old) (sort.view.state old).text from to before after code count
    ⊎ (IsNoPart (sort.unit old) (sort.view.state old).text from to code × (after ≡ before) × (count ≡ count_before)))
