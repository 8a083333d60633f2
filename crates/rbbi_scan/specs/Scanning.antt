-- Boundaries that are given by windows, whatever text the units are of.
use Rattle.std.specs.Prelude.{◌≡◌, ℕ, ◌+◌, ◌-◌, ◌<◌, ◌≤◌, ◌⊎◌, Bool, false, List, [], ◌++◌, length, Option, None, Some, IsTrue, ◌==◌}
use Rattle.rbbi_model.specs.declared.unit.Unit.{Unit as TextUnit}
use Rattle.rbbi_model.specs.Boundaries.{Boundary}
use Rattle.rbbi_model.specs.Tables.{Table}
use Rattle.rbbi_model.specs.Units.{offset_of}
use Rattle.rbbi_scan.specs.Columns.{Columns}
use Rattle.rbbi_scan.specs.Giving.{GivesOn, StopsFor, Gives}
use Rattle.rbbi_scan.specs.Spelled.{IsTextIn}
use Rattle.rbbi_scan.specs.declared.filling.Filled.{Filled}
use Rattle.rbbi_scan.specs.declared.reached.Asked.{Asked}
use Rattle.rbbi_scan.specs.declared.reached.Reached.{Reached}
use Rattle.rbbi_scan.specs.declared.reached.Stop.{Stop}
use Rattle.rbbi_scan.specs.declared.reached.Stop.TheVariants.{End, Room, More, Fault, Far, Memory}
use Rattle.rbbi_scan.specs.declared.scanning.Turn.{Turn}
use Rattle.rbbi_scan.specs.declared.source.Decoded.{Decoded}

-- the text which the units begin, and others follow them unless they are the last, and a place of it that lies there
pub record IsTextOver (unit : TextUnit) (units others : List ℕ) (is_last : Bool) (begin end : ℕ) (x : List ℕ) (place resume : ℕ) : Type 0 where
  pub last : IsTrue is_last → others ≡ []
  pub text : IsTextIn unit (units ++ others) begin end x
  pub within : place ≤ length x
  pub resume_is : resume ≡ begin + offset_of unit x place

-- what is given from a start on, whatever follows the units
abbrev pub ScansOn : TextUnit → Table → Asked → Bool → ℕ → List ℕ → Reached → Columns → Columns → Reached → Type 0
ScansOn unit table asked is_last most units start before after reached =
    (others x : List ℕ) (begin end place : ℕ) → IsTextOver unit units others is_last begin end x place start.resume →
    Gives unit table asked is_last most (units ++ others) begin end x place start.count before after reached

-- boundaries of the text are given up to where the windows have gone, and where they are over, it is said why no more are
pub record HasGone (unit : TextUnit) (table : Table) (asked : Asked) (is_last : Bool) (most : ℕ) (units others : List ℕ) (begin end : ℕ) (x : List ℕ) (place : ℕ)
    (start : Reached) (before after : Columns) (turn : Turn) : Type 0 where
  pub given : List Boundary
  pub last : ℕ
  pub over : IsTextOver unit units others is_last begin end x last turn.reached.resume
  pub on : GivesOn unit table asked.only_words (end == length (units ++ others)) (asked.origin + begin) x place last given start.count turn.reached.count before after
  pub stops : IsTrue turn.is_over →
      StopsFor unit table is_last (units ++ others) end x last turn.reached.count (length before.places) most turn.reached.stop

-- the same, whatever follows the units
abbrev pub GoesOn : TextUnit → Table → Asked → Bool → ℕ → List ℕ → Reached → Columns → Columns → Turn → Type 0
GoesOn unit table asked is_last most units start before after turn =
    (others x : List ℕ) (begin end place : ℕ) → IsTextOver unit units others is_last begin end x place start.resume →
    HasGone unit table asked is_last most units others begin end x place start before after turn

-- why nothing more is found in a window, by what was decoded and done of it
abbrev pub StopIs : Bool → ℕ → ℕ → ℕ → Decoded → Filled → ℕ → Option Stop → Type 0
StopIs is_last len room size decoded filled end None = 1 ≤ filled.at
StopIs is_last len room size decoded filled end (Some End) = IsTrue is_last × (filled.at ≡ decoded.count) × (end ≡ len)
StopIs is_last len room size decoded filled end (Some Room) = filled.count ≡ room
StopIs is_last len room size decoded filled end (Some More) = is_last ≡ false
StopIs is_last len room size decoded filled end (Some (Fault at)) =
    (at ≡ end) × (end < len) × (decoded.count < size) × (IsTrue is_last ⊎ (4 ≤ len - end)) × (filled.count < room)
StopIs is_last len room size decoded filled end (Some Far) = (decoded.count ≡ size) × (filled.at ≡ 0) × (filled.count < room)
StopIs is_last len room size decoded filled end (Some Memory) = Unit {0}

-- the answer is that a search reads on past a window
abbrev pub IsFarIf : Bool → Stop → Type 0
IsFarIf is Far = IsTrue is
IsFarIf is _ = is ≡ false
