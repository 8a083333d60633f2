-- What a table of property files holds.
use Rattle.std.specs.Prelude.{ℕ, List}
use Rattle.rbbi_model.specs.Ranges.{Range}

-- a row of a property file: its value in loose form, and the code points that have it
pub record Row : Type 0 where
  pub value : List ℕ
  pub range : Range

-- a property file: its name in loose form, and its rows
pub record File : Type 0 where
  pub name : List ℕ
  pub rows : List Row
