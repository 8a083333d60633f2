-- From the bytes of a script to its commands, and from those of a test file to its tests.
use Rattle.std.specs.Prelude.{◌≡◌, ◌≢◌, ℕ, List, map, Result, Ok, Err, codes}
use Rattle.rbbi_model.specs.Scripts.{Command}
use Rattle.rbbi_text.specs.declared.error.LinesErr.{LinesErr}
use Rattle.rbbi_text.specs.declared.error.LinesErr.TheVariants as lines
use Rattle.rbbi_script.specs.Meaning.{meaning}
use Rattle.rbbi_script.specs.Files.{ReadsScript}
use Rattle.rbbi_conform.specs.Tests.{Test}
use Rattle.rbbi_conform.specs.Files.{ReadsTests}
use Rattle.rbbi_command.specs.declared.inputs.Input.{Input}
use Rattle.rbbi_command.specs.declared.refusal.Subject.TheVariants.{File}
use Rattle.rbbi_command.specs.declared.refusal.Place.TheVariants.{Byte, Row}
use Rattle.rbbi_command.specs.declared.refusal.Refusal.{Refusal}
use Rattle.rbbi_command.specs.declared.refusal.Refusal.TheVariants.{Fault, Memory}
use Rattle.rbbi_command.specs.Stages.{Stage, followed_by, gives}

-- the refusal for a fault of a file of lines of this name
abbrev pub lines_fault : List ℕ → LinesErr → Refusal
lines_fault name (lines.NotUtf8 at) = Fault (File name) (codes "NotUtf8") (Byte at)
lines_fault name (lines.BadLine line) = Fault (File name) (codes "BadLine") (Row line)
lines_fault name lines.Memory = Memory

-- the bytes are refused, and the first fault is reported
pub record TellsLinesFault (IsRefused : LinesErr → Type 0) (name : List ℕ) (refusal : Refusal) : Type 0 where
  pub error : LinesErr
  pub refused : IsRefused error
  pub not_memory : error ≢ lines.Memory
  pub is : refusal ≡ lines_fault name error

-- what the lines of a file of this name are read as, or its first fault
abbrev pub lines_stage : {A : Type 0} → (Result A LinesErr → Type 0) → List ℕ → Stage A
lines_stage Reads name = record { passes = λ a. Reads (Ok a); refuses = TellsLinesFault (λ error. Reads (Err error)) name }

-- the commands that a script means
abbrev pub script_stage : Input → Stage (List Command)
script_stage script = followed_by (lines_stage (ReadsScript script.bytes) script.name) (λ written. gives (map meaning written))

-- the tests of a test file
abbrev pub tests_stage : Input → Stage (List Test)
tests_stage tests = lines_stage (ReadsTests tests.bytes) tests.name
