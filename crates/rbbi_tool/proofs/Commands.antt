-- What is told of the output of a command.
use Rattle.std.proofs.Common.{◌≡◌, ◌<◌, ◌≤◌, inl, inr, ℕ, zero, suc, List, [], ◌∷◌, length, sym, ap, ◌∙◌, subst, refl, arith}
use Rattle.std.specs.Prelude.{Some, IfSome, slice_get, if◌then◌else◌, ◌==◌}
use Rattle.std.proofs.lemmas.Bool.{cond_both}
use Rattle.rbbi_command.specs.declared.words.command.Command.{Command}
use Rattle.rbbi_command.specs.declared.words.command.Command.TheVariants.{Check, Compile, Upgrade, Same, Breaks, Run, Conform, Tally, Demo}
use Rattle.rbbi_command.specs.declared.words.command.Operand.{Operand}
use Rattle.rbbi_command.specs.declared.words.command.Operand.TheVariants.{Read, Written}
use Rattle.rbbi_command.specs.declared.files.Role.TheVariants.{Rules, Table}
use Rattle.rbbi_command.specs.Refusals.{Outcome}
use Rattle.rbbi_command.specs.Words.{Request, operands_of}
use Rattle.rbbi_command.specs.Inputs.{Inputs}
use Rattle.rbbi_tool.specs.Program.{nth, command_stage}
use Rattle.rbbi_tool.specs.Causes.{IsWrittenBy}
use Rattle.rbbi_tool.specs.Command.Conform.{failed_count}

-- what is told of the output of a command: its status, and the file that it writes
pub record IsToldOf (request : Request) (outcome : Outcome) : Type 0 where
  pub status : outcome.status ≤ 1
  pub file : IfSome outcome.file (λ file. IsWrittenBy request file.name)

told_of : (request : Request) (outcome other : Outcome) → outcome ≡ other → IsToldOf request other → IsToldOf request outcome
told_of request outcome other is told = subst (IsToldOf request) (sym is) told

nth_is : (words : List (List ℕ)) (k : ℕ) → k < length words → slice_get words k ≡ Some (nth words k)
nth_is [] k inside = absurd (omega arith)
nth_is (w ∷ words) zero inside = refl
nth_is (w ∷ words) (suc k) inside = nth_is words k (omega arith)

second_is_written : (request : Request) (first : Operand) → operands_of request.command request.options.by_table ≡ first ∷ Written ∷ []
    → length request.operands ≡ length (operands_of request.command request.options.by_table) → IsWrittenBy request (nth request.operands 1)
second_is_written request first are count =
    let two : length request.operands ≡ 2 = count ∙ ap length are in
    record {
      number = 1;
      written = ap (λ operands. slice_get operands 1) are;
      is = nth_is request.operands 1 (omega arith);
    }

-- the output of a command
pub command_told : (command : Command) (request : Request) (inputs : Inputs) (outcome : Outcome) → request.command ≡ command
    → length request.operands ≡ length (operands_of request.command request.options.by_table)
    → (command_stage command request inputs).passes outcome → IsToldOf request outcome
command_told Check request inputs outcome is count (rules, passed, gives) =
    told_of request outcome _ gives (record { status = omega arith; file = tt })
command_told Compile request inputs outcome is count (rules, passed, told) =
    told_of request outcome _ told.is
    (record { status = omega arith; file = second_is_written request (Read Rules) (ap (λ c. operands_of c request.options.by_table) is) count })
command_told Upgrade request inputs outcome is count (table, passed, told) =
    told_of request outcome _ told
    (record { status = omega arith; file = second_is_written request (Read Table) (ap (λ c. operands_of c request.options.by_table) is) count })
command_told Same request inputs outcome is count (rules, mean, (others, mean', inl (agree, told))) =
    told_of request outcome _ told (record { status = omega arith; file = tt })
command_told Same request inputs outcome is count (rules, mean, (others, mean', inr (w, differ, told))) =
    told_of request outcome _ told (record { status = omega arith; file = tt })
command_told Breaks request inputs outcome is count (by, passed, (x, taken, (boundaries, are, told))) =
    told_of request outcome _ told (record { status = omega arith; file = tt })
command_told Run request inputs outcome is count (by, passed, (x, taken, (commands, read, (replies, are, told)))) =
    told_of request outcome _ told (record { status = omega arith; file = tt })
command_told Tally request inputs outcome is count (basis, passed, (x, taken, (commands, read, tell))) =
    told_of request outcome _ tell.is (record { status = omega arith; file = tt })
command_told Demo request inputs outcome is count (number, written, (rules, passed, told)) =
    told_of request outcome _ told.is (record { status = omega arith; file = tt })
command_told Conform request inputs outcome is count (basis, passed, (tests, read, (verdicts, are, told))) =
    told_of request outcome _ told (record { status = low (failed_count verdicts); file = tt })
  where
    low : (n : ℕ) → (if n == 0 then 0 else 1) ≤ 1
    low n = cond_both (n == 0) 0 1 (λ m. m ≤ 1) (λ _. omega arith) (λ _. omega arith)
