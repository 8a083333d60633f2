-- A text that is fed piece by piece, and what was given of its segments.
use Rattle.std.specs.Prelude.{◌≡◌, ◌≢◌, ℕ, ◌+◌, ◌^◌, ◌<◌, ◌≤◌, Bool, false, List, [], ◌++◌, length, take, IsTrue, ◌==◌}
use Rattle.rbbi_model.specs.declared.unit.Unit.{Unit as TextUnit}
use Rattle.rbbi_model.specs.Boundaries.{Boundary}
use Rattle.rbbi_model.specs.Tables.{Table}
use Rattle.rbbi_model.specs.Units.{offset_of}
use Rattle.rbbi_model.specs.Words.{most_characters}
use Rattle.rbbi_model.specs.Searches.{table_boundaries}
use Rattle.rbbi_scan.specs.Columns.{Columns}
use Rattle.rbbi_scan.specs.Giving.{StopsFor, starts_of, ends_of, greatest_of}
use Rattle.rbbi_scan.specs.Leading.{Lead, past}
use Rattle.rbbi_scan.specs.Segments.{Segment, segments_of}
use Rattle.rbbi_scan.specs.Spelled.{IsTextIn}
use Rattle.rbbi_scan.specs.Units.{unit_of, units_of}
use Rattle.rbbi_scan.specs.declared.reached.Reached.{Reached}
use Rattle.rbbi_scan.specs.declared.reached.Stop.TheVariants.{End}
use Rattle.rbbi_scan.specs.declared.feeding.NotFed.{NotFed}
use Rattle.rbbi_scan.specs.declared.feeding.NotFed.TheVariants.{Ended, Unit as OtherUnit, Memory}
use Rattle.rbbi_scan.specs.declared.scanner.Scanner.{Scanner}

-- A column that was written so far has the numbers of all segments that were given, unless there was no room for some of them.
pub record IsColumn (written : List ℕ) (count : ℕ) (numbers : List ℕ) : Type 0 where
  pub few : length written ≤ count
  pub are : length written ≡ count → written ≡ numbers

-- The columns have these segments, by where they start and end in the unit and by the greatest status of their ends.
pub record AreWritten (unit : TextUnit) (x : List ℕ) (segments : List Segment) (written : Columns) : Type 0 where
  pub starts_are : IsColumn written.starts (length written.places) (starts_of unit 0 x segments)
  pub places_are : written.places ≡ ends_of unit 0 x segments
  pub statuses_are : IsColumn written.statuses (length written.places) (greatest_of segments)

-- The segments that were given are those between the text's boundaries from its start up to where that was reached, or the words of them alone.
pub record HasGiven (unit : TextUnit) (table : Table) (only_words : Bool) (x : List ℕ) (is_whole : Bool) (written : Columns) (reached : ℕ) : Type 0 where
  pub given : List Boundary
  pub last : ℕ
  pub within : last ≤ length x
  pub found : Lead is_whole table x 0 given last
  pub whole : past 0 (table_boundaries table x) ≡ given ++ past last (table_boundaries table x)
  pub written_are : AreWritten unit x (segments_of only_words x 0 given) written
  pub reached_is : reached ≡ offset_of unit x last

-- The text begins with the units that were fed, and others follow them unless they are the last.
pub record Begins (unit : TextUnit) (fed others : List ℕ) (is_last : Bool) (end : ℕ) (x : List ℕ) : Type 0 where
  pub last : IsTrue is_last → others ≡ []
  pub text : IsTextIn unit (fed ++ others) 0 end x

-- The units were fed, and of whatever text they begin these segments were given.
pub record HasFed (table : Table) (fed : List ℕ) (written : Columns) (scanner : Scanner) : Type 0 where
  pub gone : List ℕ
  pub fed_is : fed ≡ gone ++ units_of scanner.held
  pub origin_is : scanner.origin ≡ length gone
  pub gives : (others x : List ℕ) (end : ℕ) → Begins (unit_of scanner.held) fed others scanner.is_last end x →
      HasGiven (unit_of scanner.held) table scanner.only_words x (end == length (fed ++ others)) written (scanner.origin + scanner.at)

-- it scans the same text for the same
pub record IsSame (old new : Scanner) : Type 0 where
  pub unit : unit_of new.held ≡ unit_of old.held
  pub words : new.only_words ≡ old.only_words

-- The piece was fed, the last one or not, whatever was fed and given before.
pub record IsFed (unit : TextUnit) (piece : List ℕ) (is_last : Bool) (old new : Scanner) : Type 0 where
  pub unit_is : unit_of old.held ≡ unit
  pub same : IsSame old new
  pub last_is : new.is_last ≡ is_last
  pub feeds : (table : Table) (fed : List ℕ) (written : Columns) → HasFed table fed written old → HasFed table (fed ++ piece) written new

-- nothing changed, but how much memory is held
pub record IsStill (old new : Scanner) : Type 0 where
  pub same : IsSame old new
  pub units_are : units_of new.held ≡ units_of old.held
  pub at_is : new.at ≡ old.at
  pub origin_is : new.origin ≡ old.origin
  pub last_is : new.is_last ≡ old.is_last

-- why no piece in the unit is fed
abbrev pub IsNotFed : TextUnit → Scanner → NotFed → Type 0
IsNotFed unit scanner Ended = IsTrue scanner.is_last
IsNotFed unit scanner OtherUnit = (scanner.is_last ≡ false) × (unit_of scanner.held ≢ unit)
IsNotFed unit scanner Memory = (scanner.is_last ≡ false) × (unit_of scanner.held ≡ unit)

-- Why no more was given of a text, from the last boundary that was found. A fault's place has to be a number of 64 bits.
pub record HasStopped (unit : TextUnit) (table : Table) (units : List ℕ) (is_last : Bool) (end : ℕ) (x : List ℕ) (room : ℕ) (reached : Reached) : Type 0 where
  pub last : ℕ
  pub resume_is : reached.resume ≡ offset_of unit x last
  pub stops : end < 2 ^ 64 → StopsFor unit table is_last units end x last reached.count room most_characters reached.stop

-- what was written before, and then so many numbers of each column
abbrev pub written_on : Columns → ℕ → Columns → Columns
written_on written count after = record {
  starts = written.starts ++ take count after.starts;
  places = written.places ++ take count after.places;
  statuses = written.statuses ++ take count after.statuses;
}

-- The next segments were given, whatever was fed and given before. At the end of the text all of them were.
pub record GivesNext (table : Table) (before after : Columns) (old new : Scanner) (reached : Reached) : Type 0 where
  pub same : IsSame old new
  pub last_is : new.is_last ≡ old.is_last
  pub gives : (fed : List ℕ) (written : Columns) → HasFed table fed written old → HasFed table fed (written_on written reached.count after) new
  pub stops : (fed others x : List ℕ) (written : Columns) (end : ℕ) → HasFed table fed written old → Begins (unit_of old.held) fed others old.is_last end x →
      HasStopped (unit_of old.held) table (fed ++ others) old.is_last end x (length before.places) reached
  pub all : reached.stop ≡ End → (fed x : List ℕ) (written : Columns) → HasFed table fed written old →
      IsTextIn (unit_of old.held) fed 0 (length fed) x →
      AreWritten (unit_of old.held) x (segments_of old.only_words x 0 (past 0 (table_boundaries table x))) (written_on written reached.count after)
