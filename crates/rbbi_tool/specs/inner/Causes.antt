-- What a run comes to before anything is written, and what is reported of it.
use Rattle.std.specs.Prelude.{◌≡◌, ◌≢◌, ◌≤◌, ℕ, List, Option, None, IfSome, Result, Ok, Err}
use Rattle.rbbi_model.specs.Lines.{usage_line}
use Rattle.rbbi_io.specs.Counts.{EachStays}
use Rattle.rbbi_command.specs.declared.refusal.Refusal.{Refusal}
use Rattle.rbbi_command.specs.declared.refusal.Refusal.TheVariants.{Usage, Unread, Fault, Memory}
use Rattle.rbbi_command.specs.Refusals.{Outcome, refused}
use Rattle.rbbi_command.specs.Words.{AreNoForm}
use Rattle.rbbi_tool.specs.Program.{run_stage, IsOutcome}
use Rattle.rbbi_tool.specs.Causes.{NamesToWrite, ReadFails, TellsFailedRead}

-- what a run comes to before anything is written: its output, or what ends it
abbrev pub ComesTo : List (List ℕ) → Option (List ℕ → List ℕ) → (List ℕ → ℕ) → (List ℕ → ℕ) → Result Outcome Refusal → Type 0
ComesTo words contents before now (Ok outcome) =
    (outcome.status ≤ 1) × (¬ AreNoForm words) × IfSome outcome.file (λ file. NamesToWrite words file.name) ×
    IfSome contents (λ held. (run_stage words held).passes outcome) × EachStays before now
ComesTo words contents before now (Err Usage) = AreNoForm words × EachStays before now
ComesTo words contents before now (Err (Unread name)) = ReadFails words contents before now name
ComesTo words contents before now (Err (Fault subject label place)) =
    (¬ AreNoForm words) × IfSome contents (λ held. (run_stage words held).refuses (Fault subject label place)) × EachStays before now
ComesTo words contents before now (Err Memory) = Unit {0}

-- what is reported of an output, or of what ends a run; where memory ran out, nothing is
abbrev pub GivesOutcome : Result Outcome Refusal → Outcome → Type 0
GivesOutcome (Ok output) outcome = outcome ≡ output
GivesOutcome (Err refusal) outcome = (refusal ≢ Memory) × (outcome ≡ refused refusal)

-- What the program answers, before anything is written: a status from 0 to 6, all that is written to the sink, and the file that is written.
pub record IsAnswer (words : List (List ℕ)) (contents : Option (List ℕ → List ℕ)) (before now : List ℕ → ℕ) (outcome : Outcome) : Type 0 where
  pub low : outcome.status ≤ 6
  pub file : IfSome outcome.file (λ file. NamesToWrite words file.name)
  pub no_file : 2 ≤ outcome.status → outcome.file ≡ None
  pub usage : outcome.status ≡ 2 → AreNoForm words × (outcome.bytes ≡ usage_line)
  pub form : AreNoForm words → outcome.status ≡ 2
  pub is : outcome.status ≢ 6 → IfSome contents (λ held. IsOutcome words held outcome)
  pub unfailed : outcome.status ≤ 5 → EachStays before now
  pub read_failed : outcome.status ≡ 6 → TellsFailedRead words contents before now outcome.bytes
