-- What calls that load, share and write tables answer.
use Rattle.std.specs.Prelude.{◌≡◌, ◌≢◌, ℕ, ◌<◌, ◌⊎◌, List, length, Option, None, Some, Ok, Err, MatchOption}
use Rattle.rbbi_model.specs.Tables.{Table as BreakTable}
use Rattle.rbbi_model.specs.TableFile.{spelling}
use Rattle.rbbi_text.specs.Bytes.{most_bytes}
use Rattle.rbbi_file.specs.Answers.{ReadsTable}
use Rattle.rbbi_file.specs.Errors.{label_of, place_of}
use Rattle.rbbi_file.specs.declared.error.FileErr.{FileErr}
use Rattle.rbbi_file.specs.declared.error.FileErr.TheVariants as file
use Rattle.rbbi_c.specs.Copying.{IsCopied, room_code}
use Rattle.rbbi_c.specs.Faults.{Told, IsTold, table_place}
use Rattle.rbbi_c.specs.Holding.{table_in, HoldsSomething}
use Rattle.rbbi_c.specs.declared.held.Held.{Held}
use Rattle.rbbi_c.specs.declared.held.Held.TheVariants.{Table}

-- the bytes spell the table, in either version, and no fault is reported
abbrev pub IsLoaded : List ℕ → Told → Told → BreakTable → Type 0
IsLoaded bytes before after table = ReadsTable bytes (Ok table) × (after ≡ before)

-- the bytes are no table file, and the first fault is reported
pub record TellsFileFault (bytes : List ℕ) (before after : Told) : Type 0 where
  pub error : FileErr
  pub refused : ReadsTable bytes (Err error)
  pub not_memory : error ≢ file.Memory
  pub told : IsTold (label_of error) (table_place (place_of error)) before after

-- Why no table is loaded: the bytes are too many; memory ran out; or they are no table file.
abbrev pub IsNotLoaded : List ℕ → Told → Told → ℕ → Type 0
IsNotLoaded bytes before after code =
    ((code ≡ 7) × (most_bytes < length bytes) × (after ≡ before)) ⊎ ((code ≡ 9) × (after ≡ before)) ⊎ ((code ≡ 11) × TellsFileFault bytes before after)

-- What a call leaves that makes a table for a handle: the table, or else what was there. A handle that holds something already is refused.
abbrev pub MakesThrough : (BreakTable → Type 0) → (ℕ → Type 0) → Told → Told → Option Held → ℕ → Option Held → Type 0
MakesThrough IsMade IsNotMade before after old code now =
    ((code ≡ 0) × (old ≡ None) × ((table : BreakTable) × IsMade table × (now ≡ Some (Table table))))
    ⊎ ((now ≡ old) × (((code ≡ 3) × HoldsSomething old × (after ≡ before)) ⊎ IsNotMade code))

-- loading a table file
abbrev pub LoadsThrough : List ℕ → Told → Told → Option Held → ℕ → Option Held → Type 0
LoadsThrough bytes before after = MakesThrough (IsLoaded bytes before after) (IsNotLoaded bytes before after) before after

-- one more handle of a table
abbrev pub SharesThrough : Option Held → Option Held → ℕ → Option Held → Type 0
SharesThrough table old code now =
    MatchOption (table_in table) ((code ≡ 3) × (now ≡ old))
    (λ shared. ((code ≡ 0) × (old ≡ None) × (now ≡ Some (Table shared))) ⊎ ((now ≡ old) × (((code ≡ 3) × HoldsSomething old) ⊎ (code ≡ 9))))

-- the table file of a table, of version 2, as much of it as there is room for, and its length
pub record IsWritten (table : BreakTable) (before after : List ℕ) (code count : ℕ) : Type 0 where
  pub copied : IsCopied (spelling table) before after
  pub counted : count ≡ length (spelling table)
  pub code_is : code ≡ room_code count (length before)

abbrev pub WritesThrough : Option Held → ℕ → List ℕ → List ℕ → ℕ → ℕ → Option Held → Type 0
WritesThrough held code before after count_before count now =
    (now ≡ held) × MatchOption (table_in held) ((code ≡ 3) × (after ≡ before) × (count ≡ count_before))
    (λ table. IsWritten table before after code count ⊎ ((code ≡ 9) × (after ≡ before) × (count ≡ count_before)))
