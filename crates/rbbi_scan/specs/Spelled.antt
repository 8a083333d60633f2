-- Texts in memory, as units of UTF-8 or UTF-16, and the characters that they spell.
use Rattle.std.specs.Prelude.{◌≡◌, ℕ, ◌+◌, ◌<◌, ◌≤◌, List, [], ◌∷◌, ◌++◌, length, drop, encode_utf8}
use Rattle.std.specs.List.{flat_map}
use Rattle.std.specs.Char.Escape.{encode_utf16}
use Rattle.rbbi_model.specs.declared.unit.Unit.{Unit as TextUnit}
use Rattle.rbbi_model.specs.declared.unit.Unit.TheVariants.{Chars, Utf8, Utf16}
use Rattle.rbbi_model.specs.Units.{offset_of}
use Rattle.rbbi_model.specs.Words.{IsCharacter, IsText}

-- how the character is spelled in the unit
abbrev pub spelling_of : TextUnit → ℕ → List ℕ
spelling_of Chars c = c ∷ []
spelling_of Utf8 c = encode_utf8 c
spelling_of Utf16 c = encode_utf16 c

-- how the characters are spelled, one after the other
abbrev pub spelled : TextUnit → List ℕ → List ℕ
spelled unit x = flat_map (spelling_of unit) x

-- the units begin with the character
abbrev pub BeginWith : TextUnit → List ℕ → ℕ → Type 0
BeginWith unit units c = (rest : List ℕ) × (units ≡ spelling_of unit c ++ rest)

-- the units begin with no character: they are empty, or have a fault at their first
abbrev pub BeginWithNone : TextUnit → List ℕ → Type 0
BeginWithNone unit units = (c : ℕ) → IsCharacter c → ¬ BeginWith unit units c

-- no character begins at this place, which is before the end: a byte that isn't UTF-8, or a surrogate that is alone
pub record IsFaultAt (unit : TextUnit) (units : List ℕ) (at : ℕ) : Type 0 where
  pub inside : at < length units
  pub none : BeginWithNone unit (drop at units)

-- The units from one place to another spell these characters, and no more follow: there the units end or have a fault.
pub record IsTextIn (unit : TextUnit) (units : List ℕ) (begin end : ℕ) (x : List ℕ) : Type 0 where
  pub text : IsText x
  pub end_is : end ≡ begin + offset_of unit x (length x)
  pub within : end ≤ length units
  pub spells : drop begin units ≡ spelled unit x ++ drop end units
  pub no_more : BeginWithNone unit (drop end units)
