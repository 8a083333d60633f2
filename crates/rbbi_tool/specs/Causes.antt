-- What a run of the program answers and writes, and why.
use Rattle.std.specs.Prelude.{◌≡◌, ◌⊎◌, ℕ, List, [], take, slice_get, Option, Some}
use Rattle.rbbi_model.specs.Lines.{unread_line}
use Rattle.rbbi_model.specs.Rules.{Rule}
use Rattle.rbbi_io.specs.Counts.{Rose}
use Rattle.rbbi_io.specs.Sinks.{Takes}
use Rattle.rbbi_command.specs.declared.files.Source.{Source}
use Rattle.rbbi_command.specs.declared.words.command.Operand.TheVariants as operand
use Rattle.rbbi_command.specs.Refusals.{Outcome}
use Rattle.rbbi_command.specs.Words.{Request, IsCommandLine, operands_of}
use Rattle.rbbi_command.specs.Files.{sources_of}
use Rattle.rbbi_command.specs.Reads.{FailsToRead}
use Rattle.rbbi_tool.specs.Command.Same.{DifferAfter, told_difference}
use Rattle.rbbi_tool.specs.Program.{IsOutcome}
use Rattle.rbbi_command.specs.Delivery.{HoldsFile}

-- an operand of the request is a file that is written, and this is its name
pub record IsWrittenBy (request : Request) (name : List ℕ) : Type 0 where
  pub number : ℕ
  pub written : slice_get (operands_of request.command request.options.by_table) number ≡ Some operand.Written
  pub is : slice_get request.operands number ≡ Some name

-- the arguments name this file to be written
pub record NamesToWrite (words : List (List ℕ)) (name : List ℕ) : Type 0 where
  pub request : Request
  pub asks : IsCommandLine words request
  pub written : IsWrittenBy request name

-- the arguments name this file to be read
pub record NamesToRead (words : List (List ℕ)) (name : List ℕ) : Type 0 where
  pub request : Request
  pub asks : IsCommandLine words request
  pub number : ℕ
  pub source : Source
  pub is : slice_get (sources_of request) number ≡ Some source
  pub named : source.name ≡ name

-- no read of a file that the arguments name failed
abbrev pub NoReadFailed : List (List ℕ) → (List ℕ → ℕ) → (List ℕ → ℕ) → Type 0
NoReadFailed words before now = (name : List ℕ) → NamesToRead words name → ¬ Rose (before name) (now name)

-- The read of a file that the arguments name failed, by what the files tell that they hold and by the counts of failed reads
-- before and now, and it was the last that was made.
pub record ReadFails (words : List (List ℕ)) (contents : Option (List ℕ → List ℕ)) (before now : List ℕ → ℕ) (name : List ℕ) : Type 0 where
  pub request : Request
  pub asks : IsCommandLine words request
  pub fails : FailsToRead (sources_of request) contents before now name

-- this line tells that a read of a file failed which the arguments name
abbrev pub TellsFailedRead : List (List ℕ) → Option (List ℕ → List ℕ) → (List ℕ → ℕ) → (List ℕ → ℕ) → List ℕ → Type 0
TellsFailedRead words contents before now line = (name : List ℕ) × ReadFails words contents before now name × (line ≡ unread_line name)

-- a prefix of the line
abbrev pub IsFrontOf : List ℕ → List ℕ → Type 0
IsFrontOf piece line = (n : ℕ) × (piece ≡ take n line)

-- nothing; or a prefix of what is answered, where its file holds its bytes by now; or a prefix of the line that tells a failed read
abbrev pub IsPartOfAnswer : List (List ℕ) → (List ℕ → ℕ) → (List ℕ → ℕ) → (List ℕ → List ℕ) → (List ℕ → List ℕ) → List ℕ → Type 0
IsPartOfAnswer words before now held held' piece =
    (piece ≡ [])
    ⊎ (((outcome : Outcome) × IsOutcome words held outcome × IsFrontOf piece outcome.bytes × HoldsFile outcome.file held held')
    ⊎ ((line : List ℕ) × TellsFailedRead words (Some held) before now line × IsFrontOf piece line))

-- the sink took just a part of the answer, and nothing of it before the file that the answer writes was held
abbrev pub TakesPart : List (List ℕ) → (List ℕ → ℕ) → (List ℕ → ℕ) → Option (List ℕ) → Option (List ℕ) → (List ℕ → List ℕ) → (List ℕ → List ℕ) → Type 0
TakesPart words before now taken taken' held held' =
    (piece : List ℕ) × IsPartOfAnswer words before now held held' piece × Takes taken taken' piece

-- The status is that of the outcome, its bytes are all that the sink took, and its file holds its bytes.
pub record TakesOutcome (words : List (List ℕ)) (status : ℕ) (taken taken' : Option (List ℕ)) (held held' : List ℕ → List ℕ) : Type 0 where
  pub outcome : Outcome
  pub is : IsOutcome words held outcome
  pub status_is : outcome.status ≡ status
  pub takes : Takes taken taken' outcome.bytes
  pub holds : HoldsFile outcome.file held held'

-- the name is that of the file that the outcome writes: it holds the bytes, or its count of failed writes rose
pub record IsWritten (words : List (List ℕ)) (held held' : List ℕ → List ℕ) (writes writes' : List ℕ → ℕ) (name : List ℕ) : Type 0 where
  pub outcome : Outcome
  pub is : IsOutcome words held outcome
  pub bytes : List ℕ
  pub file : outcome.file ≡ Some (record { name = name; bytes = bytes })
  pub holds : (held' name ≡ bytes) ⊎ Rose (writes name) (writes' name)

-- each name holds what it held, or is that of the file that is written
abbrev pub EachHolds : List (List ℕ) → (List ℕ → ℕ) → (List ℕ → ℕ) → (List ℕ → List ℕ) → (List ℕ → List ℕ) → Type 0
EachHolds words writes writes' held held' = (name : List ℕ) → (held' name ≡ held name) ⊎ IsWritten words held held' writes writes' name

-- a write of a file that the arguments name failed
abbrev pub SomeWriteFailed : List (List ℕ) → (List ℕ → ℕ) → (List ℕ → ℕ) → Type 0
SomeWriteFailed words writes writes' = (name : List ℕ) × NamesToWrite words name × Rose (writes name) (writes' name)

-- no count of failed writes changed but of files that the arguments name to be written
abbrev pub OthersUnwritten : List (List ℕ) → (List ℕ → ℕ) → (List ℕ → ℕ) → Type 0
OthersUnwritten words writes writes' = (name : List ℕ) → ¬ NamesToWrite words name → writes' name ≡ writes name

-- a failed read is reported, and that line is all that the sink took
abbrev pub TakesFailedRead : List (List ℕ) → Option (List ℕ → List ℕ) → (List ℕ → ℕ) → (List ℕ → ℕ) → Option (List ℕ) → Option (List ℕ) → Type 0
TakesFailedRead words contents before now taken taken' =
    (line : List ℕ) × TellsFailedRead words contents before now line × Takes taken taken' line

-- Both tell that the same rules differ, each by a text after which they have different marks.
pub record TellOneDifference (one other : Outcome) : Type 0 where
  pub rules : List Rule
  pub other_rules : List Rule
  pub text : List ℕ
  pub other_text : List ℕ
  pub differ : DifferAfter rules other_rules text
  pub differ_too : DifferAfter rules other_rules other_text
  pub is : one ≡ told_difference text
  pub is_other : other ≡ told_difference other_text

-- two outcomes are the same, or both tell that the same rules differ
abbrev pub HasOneOutcome : List (List ℕ) → (List ℕ → List ℕ) → Type 0
HasOneOutcome words held =
    (one other : Outcome) → IsOutcome words held one → IsOutcome words held other → (one ≡ other) ⊎ TellOneDifference one other
