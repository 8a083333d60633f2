-- What calls that read property files and compile rules answer.
use Rattle.std.specs.Prelude.{◌≡◌, ℕ, ◌<◌, ◌⊎◌, Bool, List, [], ◌∷◌, ◌++◌, length, Option, None, Some, IsUtf8, MatchOption, codes}
use Rattle.rbbi_model.specs.Tables.{Table as BreakTable}
use Rattle.rbbi_text.specs.Bytes.{most_bytes, IsNotUtf8At}
use Rattle.rbbi_props.specs.Rows.{File}
use Rattle.rbbi_props.specs.Files.{named_file}
use Rattle.rbbi_props.specs.Refusals.{HasRowsAlone, IsCause, label_of as property_label}
use Rattle.rbbi_props.specs.declared.error.PropErr.{PropErr}
use Rattle.rbbi_props.specs.declared.error.PropErr.TheVariants as property
use Rattle.rbbi_command.specs.declared.refusal.Place.{Place}
use Rattle.rbbi_command.specs.declared.refusal.Place.TheVariants.{Byte, Row}
use Rattle.rbbi_command.specs.Refusals.{place_in}
use Rattle.rbbi_compile.specs.declared.error.CompileErr.{CompileErr}
use Rattle.rbbi_compile.specs.Errors.{label_of, place_of}
use Rattle.rbbi_compile.specs.Rules.{text_of}
use Rattle.rbbi_builtin.specs.Compiling.{CompilesOver, HasFaultOver}
use Rattle.rbbi_c.specs.Calls.{IsNoText, IsWrongHandle}
use Rattle.rbbi_c.specs.Faults.{Told, IsTold}
use Rattle.rbbi_c.specs.Holding.{files_in, HoldsSomething}
use Rattle.rbbi_c.specs.Tables.{MakesThrough}
use Rattle.rbbi_c.specs.declared.held.Held.{Held}
use Rattle.rbbi_c.specs.declared.held.Held.TheVariants.{Properties}

-- the place of a fault of a property file
abbrev pub IsPlaced : PropErr → Place → Type 0
IsPlaced (property.NotUtf8 at) place = place ≡ Byte at
IsPlaced (property.BadRow row) place = place ≡ Row row
IsPlaced property.Memory place = ⊥

-- The file is refused for a cause that is reported.
pub record TellsPropertyFault (bytes : List ℕ) (before after : Told) : Type 0 where
  pub error : PropErr
  pub cause : IsCause error bytes
  pub place : Place
  pub placed : IsPlaced error place
  pub told : IsTold (property_label error) place before after

-- what adding a property file answers, and the files after it
abbrev pub IsAdded : List File → List ℕ → List ℕ → ℕ → Told → Told → List File → Type 0
IsAdded old name bytes code before after new =
    ((code ≡ 0) × IsUtf8 bytes × HasRowsAlone bytes × (new ≡ old ++ named_file name bytes ∷ []) × (after ≡ before))
    ⊎ ((new ≡ old) × (((code ≡ 9) × (after ≡ before)) ⊎ ((code ≡ 11) × TellsPropertyFault bytes before after)))

-- the table is compiled from the rules of the bytes, and no fault is reported
abbrev pub IsCompiledFrom : List File → Bool → List ℕ → Told → Told → BreakTable → Type 0
IsCompiledFrom files ignored bytes before after table = IsUtf8 bytes × CompilesOver files ignored (text_of bytes) table × (after ≡ before)

-- the first fault of the bytes, its name and its place: they aren't UTF-8, or their text has a fault
abbrev pub HasFaultAt : List File → Bool → List ℕ → List ℕ → Place → Type 0
HasFaultAt files ignored bytes label place =
    ((at : ℕ) × IsNotUtf8At bytes at × (label ≡ codes "NotUtf8") × (place ≡ Byte at))
    ⊎ (IsUtf8 bytes × (error : CompileErr) × HasFaultOver files ignored (text_of bytes) error × (label ≡ label_of error)
    × (place ≡ place_in (text_of bytes) (place_of error)))

-- the rules of the bytes have a fault, the first of which is reported
pub record TellsRuleFault (files : List File) (ignored : Bool) (bytes : List ℕ) (before after : Told) : Type 0 where
  pub label : List ℕ
  pub place : Place
  pub has : HasFaultAt files ignored bytes label place
  pub told : IsTold label place before after

-- why no table is compiled
abbrev pub IsNotCompiled : List File → Bool → List ℕ → Told → Told → ℕ → Type 0
IsNotCompiled files ignored bytes before after code =
    ((code ≡ 9) × (after ≡ before)) ⊎ ((code ≡ 11) × TellsRuleFault files ignored bytes before after)

-- the property files in a handle: none where it holds nothing
abbrev pub files_of : Option Held → Option (List File)
files_of None = Some []
files_of (Some held) = files_in (Some held)

-- more bytes than a rule file may have
abbrev pub IsTooLong : List ℕ → Type 0
IsTooLong bytes = 1048576 < length bytes

-- compiling a rule file with the property files of a handle
abbrev pub IsCompiledBy : Option Held → Bool → List ℕ → Told → Told → BreakTable → Type 0
IsCompiledBy files ignored bytes before after table =
    MatchOption (files_of files) ⊥ (λ list. IsCompiledFrom list ignored bytes before after table)

abbrev pub IsNotCompiledBy : Option Held → Bool → List ℕ → Told → Told → ℕ → Type 0
IsNotCompiledBy files ignored bytes before after code =
    ((code ≡ 7) × IsTooLong bytes × (after ≡ before))
    ⊎ MatchOption (files_of files) ((code ≡ 3) × (after ≡ before)) (λ list. IsNotCompiled list ignored bytes before after code)

abbrev pub CompilesThrough : Option Held → Bool → List ℕ → Told → Told → Option Held → ℕ → Option Held → Type 0
CompilesThrough files ignored bytes before after =
    MakesThrough (IsCompiledBy files ignored bytes before after) (λ code. IsNotCompiledBy files ignored bytes before after code ⊎ ((code ≡ 9) × (after ≡
    before)))
    before after

-- an empty list of property files
abbrev pub StartsFiles : Option Held → ℕ → Option Held → Type 0
StartsFiles old code now =
    ((code ≡ 0) × (old ≡ None) × (now ≡ Some (Properties []))) ⊎ ((now ≡ old) × (((code ≡ 3) × HoldsSomething old) ⊎ (code ≡ 9)))

-- One more property file. Its name and its bytes are looked at first.
abbrev pub AddsThrough : Option Held → List ℕ → List ℕ → Told → Told → ℕ → Option Held → Type 0
AddsThrough held name bytes before after code now =
    ((now ≡ held) × (after ≡ before) × (IsNoText name code ⊎ ((code ≡ 7) × (most_bytes < length bytes))))
    ⊎ MatchOption (files_in held) (IsWrongHandle held code now × (after ≡ before))
    (λ old. (new : List File) × (now ≡ Some (Properties new)) × IsAdded old name bytes code before after new)
