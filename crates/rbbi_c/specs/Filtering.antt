-- What a call answers that turns the session in a handle into one through a filter.
use Rattle.std.specs.Prelude.{◌≡◌, ◌≢◌, ℕ, ◌<◌, ◌⊎◌, List, length, Option, Some, Result, Ok, Err, MatchOption}
use Rattle.rbbi_model.specs.Scripts.{opened}
use Rattle.rbbi_text.specs.Errors.{lines_err_label}
use Rattle.rbbi_text.specs.declared.error.LinesErr.{LinesErr}
use Rattle.rbbi_text.specs.declared.error.LinesErr.TheVariants.{NotUtf8, BadLine, Memory}
use Rattle.rbbi_command.specs.declared.refusal.Place.{Place}
use Rattle.rbbi_command.specs.declared.refusal.Place.TheVariants.{Whole, Byte, Row}
use Rattle.rbbi_command.specs.Files.{limit_of}
use Rattle.rbbi_command.specs.declared.files.Role.TheVariants as role
use Rattle.rbbi_command.specs.declared.words.setting.FilterKind.{FilterKind}
use Rattle.rbbi_command.specs.declared.words.setting.FilterKind.TheVariants.{Abbreviations, Pairs}
use Rattle.rbbi_session.specs.UnitSessions.{UnitSession}
use Rattle.rbbi_filter.specs.AbbreviationFiles.{ReadsAbbreviations}
use Rattle.rbbi_filter.specs.PairFiles.{ReadsPairs}
use Rattle.rbbi_filter.specs.UnitFilters.{UnitFilterSession}
use Rattle.rbbi_filter.specs.declared.filter.Filter.{Filter}
use Rattle.rbbi_filter.specs.declared.filter.Filter.TheVariants.{Suppressing, Turning}
use Rattle.rbbi_c.specs.Calls.{IsUnserved}
use Rattle.rbbi_c.specs.Faults.{Told, IsTold}
use Rattle.rbbi_c.specs.Holding.{session_in}
use Rattle.rbbi_c.specs.declared.held.Held.{Held}
use Rattle.rbbi_c.specs.declared.held.Held.TheVariants.{Filtered}

-- what reading a file of abbreviations, or of pairs, answers
abbrev pub ReadsFilter : FilterKind → List ℕ → Result Filter LinesErr → Type 0
ReadsFilter Abbreviations bytes (Ok (Suppressing list)) = ReadsAbbreviations bytes (Ok list)
ReadsFilter Abbreviations bytes (Ok (Turning pairs)) = ⊥
ReadsFilter Abbreviations bytes (Err error) = ReadsAbbreviations bytes (Err error)
ReadsFilter Pairs bytes (Ok (Suppressing list)) = ⊥
ReadsFilter Pairs bytes (Ok (Turning pairs)) = ReadsPairs bytes (Ok pairs)
ReadsFilter Pairs bytes (Err error) = ReadsPairs bytes (Err error)

-- the place of a fault of such a file
abbrev pub place_of : LinesErr → Place
place_of (NotUtf8 at) = Byte at
place_of (BadLine line) = Row line
place_of Memory = Whole

-- the bytes are no such file, and the fault is reported
pub record TellsFilterFault (kind : FilterKind) (bytes : List ℕ) (before after : Told) : Type 0 where
  pub error : LinesErr
  pub refused : ReadsFilter kind bytes (Err error)
  pub not_memory : error ≢ Memory
  pub told : IsTold (lines_err_label error) (place_of error) before after

-- the bytes are the file of the filter, and no fault is reported
abbrev pub IsFilterRead : FilterKind → List ℕ → Told → Told → Filter → Type 0
IsFilterRead kind bytes before after filter = ReadsFilter kind bytes (Ok filter) × (after ≡ before)

-- Why no filter is read: the bytes are more than `rbbi` takes of such a file; memory ran out; or they are no such file.
abbrev pub IsNoFilter : FilterKind → List ℕ → Told → Told → ℕ → Type 0
IsNoFilter kind bytes before after code =
    ((code ≡ 7) × (limit_of role.Filter < length bytes) × (after ≡ before)) ⊎ ((code ≡ 9) × (after ≡ before))
    ⊎ ((code ≡ 11) × TellsFilterFault kind bytes before after)

-- the session through the filter over the same text, by the same table in the same unit, at the start of the text
pub record IsThrough (old : UnitSession) (filter : Filter) (new : UnitFilterSession) : Type 0 where
  pub unit_is : new.unit ≡ old.unit
  pub table_is : new.asked.table ≡ old.asked.table
  pub filter_is : new.asked.filter ≡ filter
  pub state_is : new.asked.state ≡ opened old.asked.state.text

-- the handle holds that session, or memory ran out and it is as it was
abbrev pub GoesThrough : Option Held → UnitSession → Filter → ℕ → Option Held → Type 0
GoesThrough held old filter code now =
    ((code ≡ 0) × ((new : UnitFilterSession) × IsThrough old filter new × (now ≡ Some (Filtered new)))) ⊎ ((code ≡ 9) × (now ≡ held))

-- What such a call answers, and what it leaves in the handle. A fault of the file is reported first.
abbrev pub FiltersThrough : FilterKind → Option Held → List ℕ → Told → Told → ℕ → Option Held → Type 0
FiltersThrough kind held bytes before after code now =
    (IsNoFilter kind bytes before after code × (now ≡ held))
    ⊎ ((filter : Filter) × IsFilterRead kind bytes before after filter
    × MatchOption (session_in held) (IsUnserved held code now) (λ old. GoesThrough held old filter code now))

-- by a file of abbreviations
abbrev pub SuppressesThrough : Option Held → List ℕ → Told → Told → ℕ → Option Held → Type 0
SuppressesThrough = FiltersThrough Abbreviations

-- by a file of pairs
abbrev pub TailorsThrough : Option Held → List ℕ → Told → Told → ℕ → Option Held → Type 0
TailorsThrough = FiltersThrough Pairs
