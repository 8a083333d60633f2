-- The files that the arguments name to be read, each with its limit.
use Rattle.std.specs.Prelude.{◌≡◌, ◌<◌, ◌≤◌, ℕ, List, [], ◌∷◌, ◌++◌, length, codes}
use Rattle.rbbi_text.specs.Bytes.{most_bytes}
use Rattle.rbbi_command.specs.declared.words.command.Operand.{Operand}
use Rattle.rbbi_command.specs.declared.words.command.Operand.TheVariants.{Read}
use Rattle.rbbi_command.specs.declared.files.Role.{Role}
use Rattle.rbbi_command.specs.declared.files.Role.TheVariants as role
use Rattle.rbbi_command.specs.declared.files.Source.{Source}
use Rattle.rbbi_command.specs.declared.refusal.Subject.{Subject}
use Rattle.rbbi_command.specs.declared.refusal.Subject.TheVariants.{Rules, OtherRules, Table, File}
use Rattle.rbbi_command.specs.declared.refusal.Place.TheVariants.{Whole}
use Rattle.rbbi_command.specs.declared.refusal.Refusal.{Refusal}
use Rattle.rbbi_command.specs.declared.refusal.Refusal.TheVariants.{Fault}
use Rattle.rbbi_command.specs.Stages.{Stage, followed_by, passing}
use Rattle.rbbi_command.specs.Words.{Request, operands_of}

-- the most bytes that a file in this role may have; rule files and scripts have one limit
abbrev pub limit_of : Role → ℕ
limit_of role.Property = 8388608
limit_of role.Filter = 65536
limit_of role.Table = most_bytes
limit_of role.Text = 67108864
limit_of role.Tests = 16777216
limit_of role = 1048576

-- the file that a fault in a role is reported for
abbrev pub subject_of : Role → List ℕ → Subject
subject_of role.Rules name = Rules
subject_of role.OtherRules name = OtherRules
subject_of role.Table name = Table
subject_of role name = File name

-- the file of an operand, where it is read
abbrev pub operand_source : Operand → List ℕ → List Source
operand_source (Read role) name = record { role = role; name = name } ∷ []
operand_source operand name = []

-- the files of these operands that are read
abbrev pub operand_sources : List Operand → List (List ℕ) → List Source
operand_sources (operand ∷ operands) (name ∷ names) = operand_source operand name ++ operand_sources operands names
operand_sources operands names = []

-- the files that a request names to be read, in the order of the arguments
abbrev pub sources_of : Request → List Source
sources_of request = request.options.files ++ operand_sources (operands_of request.command request.options.by_table) request.operands

-- the file is too long
abbrev pub too_long : Source → Refusal
too_long source = Fault (subject_of source.role source.name) (codes "TooLong") Whole

-- a file that holds so many bytes is within its limit, or too long
abbrev pub length_stage : (List ℕ → List ℕ) → Source → Stage (Unit {0})
length_stage held source = record {
  passes = λ _. length (held source.name) ≤ limit_of source.role;
  refuses = λ refusal. (limit_of source.role < length (held source.name)) × (refusal ≡ too_long source);
}

-- each file is within its limit, or the first that is too long is refused
abbrev pub lengths_stage : (List ℕ → List ℕ) → List Source → Stage (Unit {0})
lengths_stage held [] = passing (λ _. Unit {0})
lengths_stage held (source ∷ sources) = followed_by (length_stage held source) (λ _. lengths_stage held sources)
