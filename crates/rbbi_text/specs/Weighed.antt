-- How much of a unit the characters of a piece take.
use Rattle.std.specs.Prelude.{◌≡◌, ℕ, ◌≤◌, List, length, sum_by}
use Rattle.rbbi_model.specs.declared.unit.Unit.{Unit as TextUnit}
use Rattle.rbbi_model.specs.Units.{size_of}

-- how much of the unit the characters of a piece take together
abbrev pub weight_of : TextUnit → List ℕ → ℕ
weight_of unit piece = sum_by (size_of unit) piece

-- they take as many of the unit as there are of them, so each takes one
abbrev pub IsSingle : TextUnit → List ℕ → Type 0
IsSingle unit characters = weight_of unit characters ≡ length characters

-- at most 1,024 characters, which take so much of the unit
pub record AreWeighed (characters : List ℕ) (unit : TextUnit) (size : ℕ) : Type 0 where
  pub few : length characters ≤ 1024
  pub size_is : size ≡ weight_of unit characters
