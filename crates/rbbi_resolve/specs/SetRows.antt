-- Sets of leaves by classes of one partition of the code points.
use Rattle.std.specs.Prelude.{◌≡◌, List, map}
use Rattle.rbbi_model.specs.Ranges.{Range}
use Rattle.rbbi_classes.specs.Classes.{ClassBits}
use Rattle.rbbi_classes.specs.CharacterSets.{characters_of}
use Rattle.rbbi_classes.specs.Divisions.{ClassDivision, IsDivision}

-- Each set is that of the characters of its row of classes: by `has-characters` of `rbbi_classes` it has a code point exactly if the row has
-- the class of that (`HasDivided`) and it is no surrogate.
pub record AreByClasses (division : ClassDivision) (rows : List ClassBits) (sets : List (List Range)) : Type 0 where
  pub form : IsDivision division
  pub same : sets ≡ map (characters_of division) rows
