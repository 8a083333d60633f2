-- Boundaries that are found in a window of a text.
use Rattle.std.specs.Prelude.{◌≡◌, ℕ, ◌+◌, ◌<◌, ◌⊎◌, Bool, false, List, [], length, IsTrue}
use Rattle.rbbi_model.specs.declared.unit.Unit.{Unit as TextUnit}
use Rattle.rbbi_model.specs.Boundaries.{Boundary}
use Rattle.rbbi_model.specs.Tables.{Table}
use Rattle.rbbi_model.specs.Units.{offset_of}
use Rattle.rbbi_model.specs.Searches.{look_end}
use Rattle.rbbi_scan.specs.Columns.{Columns}
use Rattle.rbbi_scan.specs.Decoded.{AreEnds}
use Rattle.rbbi_scan.specs.Giving.{GivesOn}
use Rattle.rbbi_scan.specs.Windows.{IsWindow}
use Rattle.rbbi_scan.specs.declared.filling.Filled.{Filled}
use Rattle.rbbi_scan.specs.declared.reached.Asked.{Asked}

-- The text that the window is one of, from a place on which lies there in the unit. With `is_final` the text ends with the window and is whole.
pub record StandsIn (unit : TextUnit) (window ends : List ℕ) (base : ℕ) (is_final is_whole : Bool) (begin place : ℕ) (rest x : List ℕ) : Type 0 where
  pub is_window : IsWindow place window rest x
  pub ends_are : AreEnds unit window ends (length window)
  pub base_is : base ≡ begin + offset_of unit x place
  pub final : IsTrue is_final → (rest ≡ []) × IsTrue is_whole

-- what filling the columns from a window gives, whatever text it is one of
abbrev pub FillsOn : Table → Asked → List ℕ → List ℕ → ℕ → Bool → ℕ → Columns → Columns → Filled → Type 0
FillsOn table asked window ends base is_final count before after filled =
    (unit : TextUnit) (is_whole : Bool) (begin place : ℕ) (rest x : List ℕ) →
    StandsIn unit window ends base is_final is_whole begin place rest x →
    (given : List Boundary) × GivesOn unit table asked.only_words is_whole (asked.origin + begin) x place (place + filled.at) given count filled.count before after

-- why no more were found in the window: all of it is done, there is no room, or the next search reads on past it
abbrev pub FillsAll : Table → List ℕ → Bool → ℕ → Filled → Type 0
FillsAll table window is_final room filled =
    (filled.at ≡ length window) ⊎ ((filled.count ≡ room) ⊎ ((is_final ≡ false) × (length window < look_end table window filled.at)))
