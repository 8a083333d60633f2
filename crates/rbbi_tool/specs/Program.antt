-- What a run of the program answers, where the files tell what they hold: the exit status, and what is written.
use Rattle.std.specs.Prelude.{◌≡◌, ◌⊎◌, ℕ, List, [], slice_index_or}
use Rattle.rbbi_command.specs.declared.words.command.Command.{Command}
use Rattle.rbbi_command.specs.declared.words.command.Command.TheVariants.{Check, Compile, Upgrade, Same, Breaks, Run, Conform, Tally, Demo}
use Rattle.rbbi_command.specs.declared.refusal.Refusal.{Refusal}
use Rattle.rbbi_command.specs.declared.refusal.Refusal.TheVariants.{Usage}
use Rattle.rbbi_command.specs.Stages.{Stage, followed_by}
use Rattle.rbbi_command.specs.Refusals.{Outcome, refused}
use Rattle.rbbi_command.specs.Words.{Request, IsCommandLine, AreNoForm}
use Rattle.rbbi_command.specs.Files.{sources_of, lengths_stage}
use Rattle.rbbi_command.specs.Inputs.{Inputs, inputs_of}
use Rattle.rbbi_tool.specs.Command.Check.{check_stage}
use Rattle.rbbi_tool.specs.Command.Compile.{compile_stage}
use Rattle.rbbi_tool.specs.Command.Upgrade.{upgrade_stage}
use Rattle.rbbi_tool.specs.Command.Same.{same_stage}
use Rattle.rbbi_tool.specs.Command.Breaks.{breaks_stage}
use Rattle.rbbi_tool.specs.Command.Run.{play_stage}
use Rattle.rbbi_tool.specs.Command.Conform.{conform_stage}
use Rattle.rbbi_tool.specs.Command.Tally.{tally_stage}
use Rattle.rbbi_tool.specs.Command.Demo.{demo_stage}

-- what the arguments ask for
abbrev pub words_stage : List (List ℕ) → Stage Request
words_stage words = record { passes = IsCommandLine words; refuses = λ refusal. AreNoForm words × (refusal ≡ Usage) }

-- the word with this number, from 0
abbrev pub nth : List (List ℕ) → ℕ → List ℕ
nth words number = slice_index_or words number []

-- what a request is answered, from its files
abbrev pub command_stage : Command → Request → Inputs → Stage Outcome
command_stage Check request inputs = check_stage request.options inputs
command_stage Compile request inputs = compile_stage request.options inputs (nth request.operands 1)
command_stage Upgrade request inputs = upgrade_stage inputs (nth request.operands 1)
command_stage Same request inputs = same_stage request.options inputs
command_stage Breaks request inputs = breaks_stage request.options inputs
command_stage Run request inputs = play_stage request.options inputs
command_stage Conform request inputs = conform_stage request.options inputs
command_stage Tally request inputs = tally_stage request.options inputs
command_stage Demo request inputs = demo_stage (nth request.operands 0)

-- what a request is answered over files that hold this: first whether a file is too long, in the order of the words
abbrev pub request_stage : (List ℕ → List ℕ) → Request → Stage Outcome
request_stage held request =
    followed_by (lengths_stage held (sources_of request)) (λ _. command_stage request.command request (inputs_of held (sources_of request)))

-- what the words are answered over files that hold this
abbrev pub run_stage : List (List ℕ) → (List ℕ → List ℕ) → Stage Outcome
run_stage words held = followed_by (words_stage words) (request_stage held)

-- what is answered: the first refusal, or the output
abbrev pub IsOutcome : List (List ℕ) → (List ℕ → List ℕ) → Outcome → Type 0
IsOutcome words held outcome =
    ((refusal : Refusal) × (run_stage words held).refuses refusal × (outcome ≡ refused refusal)) ⊎ (run_stage words held).passes outcome
