-- Places whose offsets are known.
use Rattle.std.specs.Prelude.{◌≡◌, ℕ, ◌≤◌, List, length}
use Rattle.rbbi_model.specs.declared.unit.Unit.{Unit as TextUnit}
use Rattle.rbbi_model.specs.Units.{offset_of}
use Rattle.rbbi_session.specs.declared.known.Known.{Known}

-- the place lies within the text, and at this offset
pub record IsKnown (unit : TextUnit) (x : List ℕ) (known : Known) : Type 0 where
  pub within : known.at ≤ length x
  pub offset_is : known.offset ≡ offset_of unit x known.at
