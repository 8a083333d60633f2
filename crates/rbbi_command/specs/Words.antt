-- The forms of the command line.
use Rattle.std.specs.Prelude.{◌≡◌, Bool, true, if◌then◌else◌, List, [], ◌∷◌, ℕ, length, codes}
use Rattle.rbbi_command.specs.declared.words.command.Command.{Command}
use Rattle.rbbi_command.specs.declared.words.command.Command.TheVariants.{Check, Compile, Upgrade, Same, Breaks, Run, Conform, Tally, Demo}
use Rattle.rbbi_command.specs.declared.words.command.Takes.{Takes}
use Rattle.rbbi_command.specs.declared.words.command.Takes.TheVariants.{NoOptions, RuleOptions, RuleOptionsOrTable, RuleOptionsOrTableAndTelling}
use Rattle.rbbi_command.specs.declared.words.command.Operand.{Operand}
use Rattle.rbbi_command.specs.declared.words.command.Operand.TheVariants.{Read, Written, Count}
use Rattle.rbbi_command.specs.declared.files.Role.TheVariants.{Rules, OtherRules, Table, Text, Script, Tests}
use Rattle.rbbi_command.specs.declared.words.setting.Setting.{Setting}
use Rattle.rbbi_command.specs.Counts.{IsCount}
use Rattle.rbbi_command.specs.Settings.{Options, options_of, are_taken, BeginWithSettings}

-- the word of a command
abbrev pub name_of : Command → List ℕ
name_of Check = codes "check"
name_of Compile = codes "compile"
name_of Upgrade = codes "upgrade"
name_of Same = codes "same"
name_of Breaks = codes "breaks"
name_of Run = codes "run"
name_of Conform = codes "conform"
name_of Tally = codes "tally"
name_of Demo = codes "demo"

-- which options a command takes: `check`, `compile` and `same` those on rule files
abbrev pub taken_by : Command → Takes
taken_by Upgrade = NoOptions
taken_by Demo = NoOptions
taken_by Breaks = RuleOptionsOrTableAndTelling
taken_by Run = RuleOptionsOrTableAndTelling
taken_by Conform = RuleOptionsOrTable
taken_by Tally = RuleOptionsOrTable
taken_by command = RuleOptions

-- what each operand of a command is, in order, where the first is a table file or isn't
abbrev pub operands_of : Command → Bool → List Operand
operands_of Check by_table = Read Rules ∷ []
operands_of Compile by_table = Read Rules ∷ Written ∷ []
operands_of Upgrade by_table = Read Table ∷ Written ∷ []
operands_of Same by_table = Read Rules ∷ Read OtherRules ∷ []
operands_of Breaks by_table = Read (if by_table then Table else Rules) ∷ Read Text ∷ []
operands_of Run by_table = Read (if by_table then Table else Rules) ∷ Read Text ∷ Read Script ∷ []
operands_of Conform by_table = Read (if by_table then Table else Rules) ∷ Read Tests ∷ []
operands_of Tally by_table = Read (if by_table then Table else Rules) ∷ Read Text ∷ Read Script ∷ []
operands_of Demo by_table = Count ∷ []

-- the word is of the operand's form: any word names a file
abbrev pub Fits : Operand → List ℕ → Type 0
Fits Count word = (count : ℕ) × IsCount word count
Fits operand word = Unit {0}

-- each word is of its operand's form
abbrev pub AllFit : List Operand → List (List ℕ) → Type 0
AllFit (operand ∷ operands) (word ∷ words) = Fits operand word × AllFit operands words
AllFit operands words = Unit {0}

-- what the arguments ask for: a command, what its options mean, and its operands
pub record Request : Type 0 where
  pub command : Command
  pub options : Options
  pub operands : List (List ℕ)

-- The arguments are a command, options that it takes, and just its operands, each of its form. The first operand doesn't begin as an
-- option does.
pub record IsCommandLine (words : List (List ℕ)) (request : Request) : Type 0 where
  pub settings : List Setting
  pub more : List (List ℕ)
  pub are : words ≡ name_of request.command ∷ more
  pub begin : BeginWithSettings more settings request.operands
  pub taken : are_taken (taken_by request.command) settings ≡ true
  pub options : request.options ≡ options_of settings
  pub count : length request.operands ≡ length (operands_of request.command request.options.by_table)
  pub fit : AllFit (operands_of request.command request.options.by_table) request.operands

-- the arguments are invalid
abbrev pub AreNoForm : List (List ℕ) → Type 0
AreNoForm words = (request : Request) → ¬ IsCommandLine words request
