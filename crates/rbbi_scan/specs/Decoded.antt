-- Characters that were decoded from units.
use Rattle.std.specs.Prelude.{◌≡◌, ℕ, ◌+◌, ◌<◌, ◌≤◌, List, ◌++◌, length, take, drop, slice_index}
use Rattle.rbbi_model.specs.declared.unit.Unit.{Unit as TextUnit}
use Rattle.rbbi_model.specs.Units.{offset_of}
use Rattle.rbbi_model.specs.Words.{IsText}
use Rattle.rbbi_scan.specs.Spelled.{spelled}

-- where each of the first so many characters ends, in units from the first
abbrev pub AreEnds : TextUnit → List ℕ → List ℕ → ℕ → Type 0
AreEnds unit chars ends count = (k : ℕ) → k < count → slice_index ends k ≡ offset_of unit chars (k + 1)

-- The first so many characters are spelled by the first so many of the units, and where each ends is kept.
pub record IsDecoded (unit : TextUnit) (units chars ends : List ℕ) (count used : ℕ) : Type 0 where
  pub room : count ≤ length chars
  pub text : IsText (take count chars)
  pub within : used ≤ length units
  pub used_is : used ≡ offset_of unit chars count
  pub spells : units ≡ spelled unit (take count chars) ++ drop used units
  pub ends_are : AreEnds unit chars ends count
