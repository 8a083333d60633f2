-- Characters that stand for all others when two tables are compared.
use Rattle.std.specs.Prelude.{◌≡◌, ℕ, ◌+◌, ◌<◌, List, length, slice_index, slice_index_or, if◌then◌else◌, nat_lt, nat_le}
use Rattle.rbbi_model.specs.Words.{IsCharacter}
use Rattle.rbbi_model.specs.Tables.{Table, CategoryRange, category_of}
use Rattle.rbbi_canon.specs.declared.letters.Letter.{Letter}
use Rattle.rbbi_canon.specs.inner.Joins.{AreJoinedBy}

-- the letter with this number
abbrev pub letter_at : List Letter → ℕ → Letter
letter_at letters k = slice_index_or letters k (record { character = 0; this = 0; that = 0 })

-- a character with its category in each table
pub record IsLetter (these those : Table) (letter : Letter) : Type 0 where
  pub character : IsCharacter letter.character
  pub this : category_of these.ranges letter.character ≡ letter.this
  pub that : category_of those.ranges letter.character ≡ letter.that

-- What two functions give alike for the categories of each letter, they give alike for those of every character.
pub record AreLetters (these those : Table) (letters : List Letter) : Type 0 where
  pub each : (k : ℕ) → k < length letters → IsLetter these those (letter_at letters k)
  pub enough : (f g : ℕ → List ℕ) → ((k : ℕ) → k < length letters → f (letter_at letters k).this ≡ g (letter_at letters k).that) →
      (c : ℕ) → IsCharacter c → f (category_of these.ranges c) ≡ g (category_of those.ranges c)

-- where the range with this number starts, or the number past all code points
abbrev pub start_or_end : List CategoryRange → ℕ → ℕ
start_or_end ranges k = if nat_lt k (length ranges) then (slice_index_or ranges k (record { start = 0; category = 0 })).start else 0x110000

-- the code point, or the first one past the surrogates if it is one of them or no code point
abbrev pub first_character : ℕ → ℕ
first_character start = if nat_lt start 0xD800 then start else (if nat_lt start 0xE000 then 0xE000 else (if nat_le start 0x10FFFF then start else 0xE000))

-- the sets join the categories of the character
abbrev pub IsConnected : Table → Table → List ℕ → ℕ → Type 0
IsConnected these those labels c =
    slice_index labels (category_of these.ranges c) ≡ slice_index labels (these.categories + category_of those.ranges c)

-- what was in one set still is
pub record StayConnected (old new : List ℕ) : Type 0 where
  pub stay : (x y : ℕ) → x < length old → y < length old → slice_index old x ≡ slice_index old y → slice_index new x ≡ slice_index new y

-- letters, whose categories are what is joined
pub record AreLettersSoFar (these those : Table) (labels : List ℕ) (letters : List Letter) : Type 0 where
  pub each : (k : ℕ) → k < length letters → IsLetter these those (letter_at letters k)
  pub joined : AreJoinedBy (these.categories + those.categories) labels (length letters)
      (λ k. (letter_at letters k).this) (λ k. these.categories + (letter_at letters k).that)
