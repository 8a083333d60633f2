-- Sets of classes, by the code points at which these begin.
use Rattle.std.specs.Prelude.{◌≡◌, ℕ, ◌+◌, ◌-◌, ◌/◌, ◌%◌, ◌<◌, ◌≤◌, ◌⊎◌, nat_lt, nat_le, Bool, List, [], ◌∷◌, slice_index, if◌then◌else◌, IsTrue}
use Rattle.std.specs.List.{Contains}
use Rattle.rbbi_model.specs.Places.{has_bit}

-- How many bounds are up to a code point. So where a class begins at each bound, and the first one at 0, this is the number of the last
-- class that begins up to the code point, and of that which begins at it.
abbrev pub class_of : List ℕ → ℕ → ℕ
class_of [] c = 0
class_of (bound ∷ bounds) c = if nat_le bound c then class_of bounds c + 1 else 0

-- each bound is past the one before it and the number before them, and a code point
abbrev pub AreBoundsFrom : ℕ → List ℕ → Type 0
AreBoundsFrom before [] = Unit {0}
AreBoundsFrom before (bound ∷ bounds) = (before < bound) × (bound ≤ 0x10FFFF) × AreBoundsFrom bound bounds

-- the bounds rise, and no class is empty
abbrev pub AreBounds : List ℕ → Type 0
AreBounds bounds = AreBoundsFrom 0 bounds

-- a class begins at the code point
abbrev pub IsFirstOfClass : List ℕ → ℕ → Type 0
IsFirstOfClass bounds c = (c ≡ 0) ⊎ Contains bounds c

-- Classes by their numbers, as bits of words, 64 to a word, the least bit first. The words before the first one here are 0.
pub record ClassBits : Type 0 where
  pub from : ℕ
  pub words : List ℕ

-- the word with this number
abbrev pub word_at : ClassBits → ℕ → ℕ
word_at set i = if nat_lt i set.from then 0 else slice_index set.words (i - set.from)

-- whether the set has the class with this number
abbrev pub class_bit : ClassBits → ℕ → Bool
class_bit set k = has_bit (word_at set (k / 64)) (k % 64)

abbrev pub HasClass : ClassBits → ℕ → Type 0
HasClass set k = IsTrue (class_bit set k)

-- the set has the last class that begins up to the code point, and so that which begins at it
abbrev pub HasMember : List ℕ → ClassBits → ℕ → Type 0
HasMember bounds set c = (c ≤ 0x10FFFF) × HasClass set (class_of bounds c)
