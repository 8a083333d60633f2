-- What calls answer that give the boundaries, or the words alone, of a text which nobody edits.
use Rattle.std.specs.Prelude.{◌≡◌, ℕ, ◌<◌, ◌≤◌, ◌⊎◌, Bool, List, length, Option, MatchOption}
use Rattle.rbbi_model.specs.declared.unit.Unit.{Unit as TextUnit}
use Rattle.rbbi_model.specs.declared.unit.Unit.TheVariants.{Chars, Utf8, Utf16}
use Rattle.rbbi_model.specs.Tables.{Table as BreakTable}
use Rattle.rbbi_scan.specs.Breaks.{Breaks}
use Rattle.rbbi_scan.specs.Columns.{Columns}
use Rattle.rbbi_scan.specs.declared.reached.Reached.{Reached}
use Rattle.rbbi_scan.specs.declared.reached.Stop.{Stop}
use Rattle.rbbi_scan.specs.declared.reached.Stop.TheVariants as stop
use Rattle.rbbi_c.specs.Holding.{table_in}
use Rattle.rbbi_c.specs.declared.held.Held.{Held}
use Rattle.rbbi_c.specs.declared.scanning.Given.{Given}

-- the code of why no more is given, by that of a text that has a fault
abbrev pub code_of : ℕ → Stop → ℕ
code_of fault stop.End = 0
code_of fault stop.Room = 10
code_of fault stop.More = 1
code_of fault (stop.Fault at) = fault
code_of fault stop.Far = 7
code_of fault stop.Memory = 9

-- the place that C gets: that of a fault, or else the one to go on from
abbrev pub place_of : ℕ → Stop → ℕ
place_of resume stop.End = resume
place_of resume stop.Room = resume
place_of resume stop.More = resume
place_of resume (stop.Fault at) = at
place_of resume stop.Far = resume
place_of resume stop.Memory = resume

abbrev pub given_by : Reached → Given
given_by reached = record { count = reached.count; place = place_of reached.resume reached.stop }

-- the code of a text that has a fault
abbrev pub fault_code : TextUnit → ℕ
fault_code Chars = 8
fault_code Utf8 = 8
fault_code Utf16 = 13

-- what follows the place is given, and C gets how far and why no more
pub record IsScanned (unit : TextUnit) (only_words : Bool) (table : BreakTable) (units : List ℕ) (from : ℕ) (before after : Columns) (code : ℕ)
    (told : Given) : Type 0 where
  pub reached : Reached
  pub breaks : Breaks unit table only_words units from before after reached
  pub told_is : told ≡ given_by reached
  pub code_is : code ≡ code_of (fault_code unit) reached.stop

-- or the place lies past the end of the text
abbrev pub Scans : TextUnit → Bool → BreakTable → List ℕ → ℕ → Columns → Columns → ℕ → Given → Given → Type 0
Scans unit only_words table units from before after code earlier told =
    ((code ≡ 5) × (length units < from) × (after ≡ before) × (told ≡ earlier))
    ⊎ ((from ≤ length units) × IsScanned unit only_words table units from before after code told)

-- what such a call answers through the handle of a table, which stays there
abbrev pub ScansThrough : TextUnit → Bool → Option Held → List ℕ → ℕ → Columns → Columns → ℕ → Given → Given → Option Held → Type 0
ScansThrough unit only_words held units from before after code earlier told now =
    (now ≡ held)
    × MatchOption (table_in held) ((code ≡ 3) × (after ≡ before) × (told ≡ earlier))
    (λ table. Scans unit only_words table units from before after code earlier told)
