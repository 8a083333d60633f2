-- What reading the files of a list, in order, answers and leaves.
use Rattle.std.specs.Prelude.{◌≡◌, ◌≢◌, ◌<◌, ◌≤◌, ◌+◌, ◌⊎◌, ℕ, List, length, Option, Some, slice_get, IfSome, Result, Ok, Err}
use Rattle.rbbi_io.specs.Counts.{Rose, EachStays}
use Rattle.rbbi_io.specs.declared.error.ReadErr.{ReadErr}
use Rattle.rbbi_io.specs.declared.error.ReadErr.TheVariants as read
use Rattle.rbbi_command.specs.declared.files.Source.{Source}
use Rattle.rbbi_command.specs.declared.refusal.Refusal.{Refusal}
use Rattle.rbbi_command.specs.declared.refusal.Refusal.TheVariants.{Usage, Unread, Fault, Memory}
use Rattle.rbbi_command.specs.Files.{limit_of, too_long, lengths_stage}
use Rattle.rbbi_command.specs.Inputs.{Inputs, inputs_of}

-- So many of the files were read, in order: each but the last of these is within its limit, and no other name's count of
-- failed reads changed.
pub record MakesReads (held : List ℕ → List ℕ) (sources : List Source) (before now : List ℕ → ℕ) (made : ℕ) : Type 0 where
  pub few : made ≤ length sources
  pub within : (k : ℕ) (source : Source) → k + 1 < made → slice_get sources k ≡ Some source → length (held source.name) ≤ limit_of source.role
  pub others : (name : List ℕ) → ((k : ℕ) (source : Source) → k < made → slice_get sources k ≡ Some source → source.name ≢ name) → now name ≡ before name

-- some of the files were read, in order
abbrev pub MakesSomeReads : List Source → (List ℕ → ℕ) → (List ℕ → ℕ) → (List ℕ → List ℕ) → Type 0
MakesSomeReads sources before now held = (made : ℕ) × MakesReads held sources before now made

-- The read of one of the files failed, which was the last that was made; so no file before it is too long.
pub record FailsToRead (sources : List Source) (contents : Option (List ℕ → List ℕ)) (before now : List ℕ → ℕ) (name : List ℕ) : Type 0 where
  pub number : ℕ
  pub source : Source
  pub is : slice_get sources number ≡ Some source
  pub named : source.name ≡ name
  pub rose : Rose (before name) (now name)
  pub reads : IfSome contents (λ held. MakesReads held sources before now (number + 1))

-- why reading the files ended: a read failed, or a file is too long and none failed
abbrev pub EndsReading : List Source → Option (List ℕ → List ℕ) → (List ℕ → ℕ) → (List ℕ → ℕ) → Refusal → Type 0
EndsReading sources contents before now Usage = ⊥
EndsReading sources contents before now (Unread name) = FailsToRead sources contents before now name
EndsReading sources contents before now (Fault subject label place) =
    IfSome contents (λ held. (lengths_stage held sources).refuses (Fault subject label place)) × EachStays before now
EndsReading sources contents before now Memory = Unit {0}

-- all files were read, and this is what they are to the program
abbrev pub AreRead : List Source → Inputs → (List ℕ → List ℕ) → Type 0
AreRead sources inputs held = (inputs ≡ inputs_of held sources) × (lengths_stage held sources).passes tt

-- So many of the files were read, in order and each with its limit, by reads of which none was refused, where `gives` says what a read
-- answers and leaves.
pub data AreReads {S : Type 0} (gives : S → List ℕ → ℕ → Result (List ℕ) ReadErr → S → Type 0) (sources : List Source) (before : S) : ℕ → S → Type 0 where
  NoRead : AreReads gives sources before 0 before
  OneMore : (made : ℕ) (source : Source) (bytes : List ℕ) (between now : S) → AreReads gives sources before made between →
      slice_get sources made ≡ Some source → gives between source.name (limit_of source.role) (Ok bytes) now → AreReads gives sources before (made + 1) now

-- what is reported of a file whose read was refused
abbrev pub refused_read : Source → ReadErr → Refusal
refused_read source read.Failed = Unread source.name
refused_read source read.TooLong = too_long source
refused_read source read.Memory = Memory

-- One read of this file was refused, and that is what is reported, or memory ran out.
pub record IsRefusedRead {S : Type 0} (gives : S → List ℕ → ℕ → Result (List ℕ) ReadErr → S → Type 0) (source : Source) (before : S) (refusal : Refusal)
    (now : S) : Type 0 where
  pub error : ReadErr
  pub answer : gives before source.name (limit_of source.role) (Err error) now
  pub told : (refusal ≡ Memory) ⊎ (refusal ≡ refused_read source error)

-- Some of the files were read, and then memory ran out, or the read of the next one was refused, and it was the last read.
pub record StopsReading {S : Type 0} (gives : S → List ℕ → ℕ → Result (List ℕ) ReadErr → S → Type 0) (sources : List Source) (before : S)
    (refusal : Refusal) (now : S) : Type 0 where
  pub made : ℕ
  pub between : S
  pub reads : AreReads gives sources before made between
  pub last : ((now ≡ between) × (refusal ≡ Memory)) ⊎
      ((source : Source) × (slice_get sources made ≡ Some source) × IsRefusedRead gives source between refusal now)

-- all files were read, or those before a read that was refused, which was the last one
abbrev pub EndsAtRefusedRead : {S T : Type 0} → (S → List ℕ → ℕ → Result (List ℕ) ReadErr → S → Type 0) → List Source → S → Result T Refusal → S → Type 0
EndsAtRefusedRead gives sources before (Ok _) now = AreReads gives sources before (length sources) now
EndsAtRefusedRead gives sources before (Err refusal) now = StopsReading gives sources before refusal now
