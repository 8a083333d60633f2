-- The place at an offset of a text, or the last one before it.
use Rattle.std.specs.Prelude.{◌≡◌, ◌↔◌, ℕ, ◌≤◌, List, length, IsTrue}
use Rattle.rbbi_model.specs.declared.unit.Unit.{Unit as TextUnit}
use Rattle.rbbi_model.specs.Units.{offset_of}
use Rattle.rbbi_text.specs.declared.units.Index.{Index}

-- this is the greatest place that doesn't lie past the offset, and it is whole exactly where it lies at the offset
pub record IsIndex (unit : TextUnit) (x : List ℕ) (o : ℕ) (index : Index) : Type 0 where
  pub within : index.at ≤ length x
  pub before : offset_of unit x index.at ≤ o
  pub greatest : (i : ℕ) → i ≤ length x → offset_of unit x i ≤ o → i ≤ index.at
  pub whole : IsTrue index.whole ↔ (offset_of unit x index.at ≡ o)
