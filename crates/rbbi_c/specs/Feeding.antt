-- What calls answer that scan a text which is fed piece by piece.
use Rattle.std.specs.Prelude.{◌≡◌, ℕ, ◌⊎◌, Bool, false, List, [], Option, None, Some, Result, Ok, Err, MatchOption, if◌then◌else◌, ◌==◌}
use Rattle.rbbi_model.specs.declared.unit.Unit.{Unit as TextUnit}
use Rattle.rbbi_model.specs.declared.unit.Unit.TheVariants.{Utf8, Utf16}
use Rattle.rbbi_model.specs.Tables.{Table as BreakTable}
use Rattle.rbbi_scan.specs.Columns.{Columns, columns}
use Rattle.rbbi_scan.specs.Units.{unit_of}
use Rattle.rbbi_scan.specs.Feeding.{HasFed, IsFed, IsStill, IsNotFed, GivesNext}
use Rattle.rbbi_scan.specs.declared.reached.Reached.{Reached}
use Rattle.rbbi_scan.specs.declared.feeding.NotFed.{NotFed}
use Rattle.rbbi_scan.specs.declared.feeding.NotFed.TheVariants as refusal
use Rattle.rbbi_scan.specs.declared.scanner.Scanner.{Scanner}
use Rattle.rbbi_c.specs.Holding.{table_in, scan_in, HoldsSomething}
use Rattle.rbbi_c.specs.Scanning.{code_of, fault_code, given_by}
use Rattle.rbbi_c.specs.declared.held.Held.{Held}
use Rattle.rbbi_c.specs.declared.held.Held.TheVariants.{Scan}
use Rattle.rbbi_c.specs.declared.scan_desk.ScanDesk.{ScanDesk}
use Rattle.rbbi_c.specs.declared.scanning.Given.{Given}

-- the unit of a number in which a text is fed
abbrev pub scan_unit : ℕ → Option TextUnit
scan_unit n = if n == 1 then Some Utf8 else if n == 2 then Some Utf16 else None

-- nothing is fed of a text in the unit of the number, and nothing is given, by whatever table
pub record IsFreshScanner (unit : ℕ) (only_words : Bool) (scanner : Scanner) : Type 0 where
  pub named : scan_unit unit ≡ Some (unit_of scanner.held)
  pub words : scanner.only_words ≡ only_words
  pub unfinished : scanner.is_last ≡ false
  pub fed : (table : BreakTable) → HasFed table [] (columns [] [] []) scanner

-- a scan by the table of the handle of which nothing is fed
pub record IsNewScan (table : Option Held) (unit : ℕ) (only_words : Bool) (desk : ScanDesk) : Type 0 where
  pub held : table_in table ≡ Some desk.table
  pub fresh : IsFreshScanner unit only_words desk.scanner

-- why there is no scan: the handle holds no table; the number names neither UTF-8 nor UTF-16; or memory ran out
abbrev pub IsNoScan : Option Held → ℕ → ℕ → Type 0
IsNoScan table unit code = ((code ≡ 3) × (table_in table ≡ None)) ⊎ ((code ≡ 4) × (scan_unit unit ≡ None)) ⊎ (code ≡ 9)

-- What opening a scan answers, and what the handle for it holds then. A handle that holds something already is refused.
abbrev pub OpensScanThrough : Option Held → ℕ → Bool → Option Held → ℕ → Option Held → Type 0
OpensScanThrough table unit only_words old code now =
    ((code ≡ 0) × (old ≡ None) × ((desk : ScanDesk) × IsNewScan table unit only_words desk × (now ≡ Some (Scan desk))))
    ⊎ ((now ≡ old) × (((code ≡ 3) × HoldsSomething old) ⊎ IsNoScan table unit code))

-- the code of what feeding a piece answers
abbrev pub code_of_feed : Result (Unit {0}) NotFed → ℕ
code_of_feed (Ok fed) = 0
code_of_feed (Err refusal.Ended) = 5
code_of_feed (Err refusal.Unit) = 4
code_of_feed (Err refusal.Memory) = 9

-- the piece is fed, or nothing is
abbrev pub IsFedOrStill : TextUnit → List ℕ → Bool → Scanner → Scanner → Result (Unit {0}) NotFed → Type 0
IsFedOrStill unit piece is_last old new (Ok fed) = (old.is_last ≡ false) × IsFed unit piece is_last old new
IsFedOrStill unit piece is_last old new (Err why) = IsNotFed unit old why × IsStill old new

-- what feeding a piece answers, and leaves of the scan
pub record IsFedIn (unit : TextUnit) (piece : List ℕ) (is_last : Bool) (old : ScanDesk) (code : ℕ) (now : Option Held) : Type 0 where
  pub new : ScanDesk
  pub outcome : Result (Unit {0}) NotFed
  pub holds : now ≡ Some (Scan new)
  pub table_is : new.table ≡ old.table
  pub fed : IsFedOrStill unit piece is_last old.scanner new.scanner outcome
  pub code_is : code ≡ code_of_feed outcome

abbrev pub FeedsThrough : TextUnit → Option Held → List ℕ → Bool → ℕ → Option Held → Type 0
FeedsThrough unit held piece is_last code now =
    MatchOption (scan_in held) ((code ≡ 3) × (now ≡ held)) (λ old. IsFedIn unit piece is_last old code now)

-- what is given next, how far and why no more, and what is left of the scan
pub record IsGivenIn (old : ScanDesk) (before after : Columns) (code : ℕ) (told : Given) (now : Option Held) : Type 0 where
  pub new : ScanDesk
  pub reached : Reached
  pub holds : now ≡ Some (Scan new)
  pub table_is : new.table ≡ old.table
  pub next : GivesNext old.table before after old.scanner new.scanner reached
  pub told_is : told ≡ given_by reached
  pub code_is : code ≡ code_of (fault_code (unit_of old.scanner.held)) reached.stop

abbrev pub GivesThrough : Option Held → Columns → Columns → ℕ → Given → Given → Option Held → Type 0
GivesThrough held before after code earlier told now =
    MatchOption (scan_in held) ((code ≡ 3) × (after ≡ before) × (told ≡ earlier) × (now ≡ held)) (λ old. IsGivenIn old before after code told now)
