-- What the boundaries of a text come by: the rules of a rule file, or a table.
use Rattle.std.specs.Prelude.{◌≡◌, ◌≢◌, ℕ, Bool, true, false, Err, List, Option, Some, None}
use Rattle.rbbi_model.specs.Rules.{Rule}
use Rattle.rbbi_model.specs.Boundaries.{Boundary, AreBoundaries}
use Rattle.rbbi_model.specs.Tables.{Table}
use Rattle.rbbi_model.specs.ValidTables.{IsValidTable}
use Rattle.rbbi_model.specs.Searches.{table_boundaries}
use Rattle.rbbi_model.specs.Compiled.{IsCompiled}
use Rattle.rbbi_model.specs.TableFile.{IsSpelling}
use Rattle.rbbi_compile.specs.Tables.{HasTableRules, HasFault}
use Rattle.rbbi_file.specs.declared.error.FileErr.{FileErr}
use Rattle.rbbi_file.specs.declared.error.FileErr.TheVariants as file
use Rattle.rbbi_file.specs.Errors as reader
use Rattle.rbbi_file.specs.Answers.{ReadsTable}
use Rattle.rbbi_command.specs.Settings.{Options}
use Rattle.rbbi_command.specs.Inputs.{Inputs}
use Rattle.rbbi_command.specs.declared.refusal.Subject.TheVariants as subject
use Rattle.rbbi_command.specs.declared.refusal.Place.{Place}
use Rattle.rbbi_command.specs.declared.refusal.Place.TheVariants.{Whole, Byte}
use Rattle.rbbi_command.specs.declared.refusal.Refusal.{Refusal}
use Rattle.rbbi_command.specs.declared.refusal.Refusal.TheVariants.{Fault}
use Rattle.rbbi_command.specs.Stages.{Stage, followed_by, gives}
use Rattle.rbbi_props.specs.Rows.{File}
use Rattle.rbbi_tool.specs.Properties.{properties_stage, property_files}
use Rattle.rbbi_tool.specs.Rules.{rule_text_stage, told_stage}

-- the rules of the bytes of a rule file that has a table, with these property files
abbrev pub compiled_bytes_stage : List File → Bool → List ℕ → Stage (List Rule)
compiled_bytes_stage files ignored bytes = followed_by (rule_text_stage bytes) (told_stage (HasTableRules files ignored) (HasFault files ignored))

-- the rules of a rule file that has a table, with the property files that are passed, as they are and after them
abbrev pub compiled_with : Options → Inputs → Stage (List Rule)
compiled_with options inputs = compiled_bytes_stage (property_files options.properties inputs.properties) options.ignored inputs.rules

abbrev pub compiled_stage : Options → Inputs → Stage (List Rule)
compiled_stage options inputs =
    followed_by (properties_stage options.properties inputs.properties) (λ _. compiled_with options inputs)

-- the place of a fault of a table file
abbrev pub table_place : Option ℕ → Place
table_place None = Whole
table_place (Some at) = Byte at

-- the bytes are no table file, and the first fault is reported
pub record TellsTableFault (bytes : List ℕ) (refusal : Refusal) : Type 0 where
  pub error : FileErr
  pub refused : ReadsTable bytes (Err error)
  pub not_memory : error ≢ file.Memory
  pub is : refusal ≡ Fault subject.Table (reader.label_of error) (table_place (reader.place_of error))

-- the table that the bytes of a table file spell, in either version, or the first fault
abbrev pub table_stage : List ℕ → Stage Table
table_stage bytes = record { passes = λ table. IsValidTable table × IsSpelling bytes table; refuses = TellsTableFault bytes }

-- what boundaries come by
pub data Basis : Type 0 where
  ByRules : (rules : List Rule) → Basis
  ByTable : (table : Table) → Basis

-- these are the boundaries of the text
abbrev pub AreBoundariesBy : Basis → List ℕ → List Boundary → Type 0
AreBoundariesBy (ByRules rules) x boundaries = AreBoundaries rules x boundaries
AreBoundariesBy (ByTable table) x boundaries = boundaries ≡ table_boundaries table x

-- the table is compiled from the rules, or it is the one that was read
abbrev pub IsTableOf : Table → Basis → Type 0
IsTableOf table (ByRules rules) = IsCompiled table rules
IsTableOf table (ByTable other) = other ≡ table

-- what a table file gives, or a rule file
abbrev pub basis_by : Bool → Options → Inputs → Stage Basis
basis_by false options inputs = followed_by (compiled_with options inputs) (λ rules. gives (ByRules rules))
basis_by true options inputs = followed_by (table_stage inputs.table) (λ table. gives (ByTable table))

-- what boundaries come by, after the property files that are passed: by a table file there are none
abbrev pub basis_stage : Options → Inputs → Stage Basis
basis_stage options inputs =
    followed_by (properties_stage options.properties inputs.properties) (λ _. basis_by options.by_table options inputs)
