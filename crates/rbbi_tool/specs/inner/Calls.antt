-- Which calls a run makes on its files before anything is written.
use Rattle.std.specs.Prelude.{◌≡◌, ◌≢◌, ◌⊎◌, ℕ, List, length, Result, Ok, Err}
use Rattle.rbbi_io.specs.declared.error.ReadErr.{ReadErr}
use Rattle.rbbi_command.specs.declared.files.Source.{Source}
use Rattle.rbbi_command.specs.declared.refusal.Refusal.{Refusal}
use Rattle.rbbi_command.specs.Files.{sources_of}
use Rattle.rbbi_command.specs.Reads.{AreReads, StopsReading}
use Rattle.rbbi_command.specs.Refusals.{status_of}
use Rattle.rbbi_command.specs.Words.{Request, IsCommandLine, AreNoForm}

-- All files were read, in order; or a refused read is what ends the run, and was the last.
abbrev pub ReadsTo : {S T : Type 0} → (S → List ℕ → ℕ → Result (List ℕ) ReadErr → S → Type 0) → List Source → S → Result T Refusal → S → Type 0
ReadsTo gives sources before (Ok _) now = AreReads gives sources before (length sources) now
ReadsTo gives sources before (Err refusal) now =
    StopsReading gives sources before refusal now ⊎ ((status_of refusal ≢ 6) × AreReads gives sources before (length sources) now)

-- Where the arguments are invalid no file is read, and otherwise those of the request.
pub record ReadsAsAsked {S T : Type 0} (gives : S → List ℕ → ℕ → Result (List ℕ) ReadErr → S → Type 0) (words : List (List ℕ)) (before : S)
    (result : Result T Refusal) (now : S) : Type 0 where
  pub unread : AreNoForm words → now ≡ before
  pub reads : (request : Request) → IsCommandLine words request → ReadsTo gives (sources_of request) before result now
