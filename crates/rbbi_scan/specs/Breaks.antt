-- What a call gives of the boundaries of a text that stands whole in memory.
use Rattle.std.specs.Prelude.{◌≡◌, ℕ, Bool, ◌+◌, ◌≤◌, true, List, ◌++◌, length}
use Rattle.rbbi_model.specs.declared.unit.Unit.{Unit as TextUnit}
use Rattle.rbbi_model.specs.Cover.{IsPlaceOf}
use Rattle.rbbi_model.specs.Tables.{Table}
use Rattle.rbbi_model.specs.Searches.{table_boundaries}
use Rattle.rbbi_model.specs.Units.{offset_of}
use Rattle.rbbi_model.specs.Words.{most_characters}
use Rattle.rbbi_scan.specs.Columns.{Columns}
use Rattle.rbbi_scan.specs.Giving.{Gives}
use Rattle.rbbi_scan.specs.Leading.{past}
use Rattle.rbbi_scan.specs.Spelled.{IsTextIn}
use Rattle.rbbi_scan.specs.declared.reached.Reached.{Reached}

-- What is given of the text's segments that follow a place of it, or of the words alone, and where that is a boundary: those that are given, and then those past
-- the place that was reached, are all that follow it.
pub record BreaksAt (unit : TextUnit) (table : Table) (only_words : Bool) (units : List ℕ) (begin end : ℕ) (x : List ℕ) (place : ℕ) (before after : Columns)
    (reached : Reached) : Type 0 where
  pub gives : Gives unit table (record { only_words = only_words; origin = 0 }) true most_characters units begin end x place 0 before after reached
  pub whole : IsPlaceOf (table_boundaries table x) place →
      past place (table_boundaries table x) ≡ gives.given ++ past gives.last (table_boundaries table x)

-- whatever text the units spell up to their end or a fault, and at which place of it the call begins
abbrev pub Breaks : TextUnit → Table → Bool → List ℕ → ℕ → Columns → Columns → Reached → Type 0
Breaks unit table only_words units from before after reached =
    (x : List ℕ) (begin end place : ℕ) → IsTextIn unit units begin end x → place ≤ length x → from ≡ begin + offset_of unit x place →
    BreaksAt unit table only_words units begin end x place before after reached
