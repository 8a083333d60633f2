-- The stages of commands refuse with faults of files alone.
use Rattle.std.proofs.Common.{◌≡◌, ◌≢◌, refl, ℕ, Bool, true, false, Option, Some, None, List, [], ◌∷◌, sym, subst, inl, inr}
use Rattle.rbbi_model.specs.Rules.{Rule}
use Rattle.rbbi_command.specs.declared.words.command.Command.{Command}
use Rattle.rbbi_command.specs.declared.words.command.Command.TheVariants.{Check, Compile, Upgrade, Same, Breaks, Run, Conform, Tally, Demo}
use Rattle.rbbi_command.specs.declared.words.setting.Property.{Property}
use Rattle.rbbi_command.specs.declared.words.setting.FilterKind.{FilterKind}
use Rattle.rbbi_command.specs.declared.words.setting.FilterKind.TheVariants.{Abbreviations, Pairs}
use Rattle.rbbi_command.specs.declared.inputs.Input.{Input}
use Rattle.rbbi_command.specs.declared.refusal.Subject.{Subject}
use Rattle.rbbi_command.specs.declared.refusal.Subject.TheVariants as subject
use Rattle.rbbi_command.specs.declared.refusal.Place.{Place}
use Rattle.rbbi_command.specs.declared.refusal.Refusal.{Refusal}
use Rattle.rbbi_command.specs.declared.refusal.Refusal.TheVariants.{Usage, Unread, Fault, Memory}
use Rattle.rbbi_command.specs.Stages.{Stage}
use Rattle.rbbi_command.specs.Words.{Request}
use Rattle.rbbi_command.specs.Settings.{Options}
use Rattle.rbbi_command.specs.Inputs.{Inputs}
use Rattle.rbbi_tool.specs.Texts.{text_stage}
use Rattle.rbbi_tool.specs.Properties.{properties_stage, property_files}
use Rattle.rbbi_tool.specs.Rules.{rules_stage}
use Rattle.rbbi_text.specs.declared.error.LinesErr.{LinesErr}
use Rattle.rbbi_text.specs.declared.error.LinesErr.TheVariants as lines
use Rattle.rbbi_tool.specs.Scripts.{lines_fault, script_stage}
use Rattle.rbbi_props.specs.Rows.{File}
use Rattle.rbbi_tool.specs.Basis.{compiled_bytes_stage, compiled_with, compiled_stage, basis_by, basis_stage}
use Rattle.rbbi_tool.specs.Command.Same.{told_of_second, as_second, second_stage}
use Rattle.rbbi_tool.specs.Filters.{filter_stage, filtered_by}
use Rattle.rbbi_tool.specs.Program.{command_stage}

-- a fault of a file ends the run
unfoldable pub IsFault : Refusal → Type 0
IsFault Usage = ⊥
IsFault (Unread name) = ⊥
IsFault (Fault subject label place) = Unit {0}
IsFault Memory = ⊥

-- the stage refuses with faults of files alone
abbrev Faults : {A : Type 0} → Stage A → Type 0
Faults stage = (r : Refusal) → stage.refuses r → IsFault r

is_fault : (subject : Subject) (label : List ℕ) (place : Place) (r : Refusal) → r ≡ Fault subject label place → IsFault r
unfolding IsFault
is_fault subject label place r is = subst IsFault (sym is) tt

-- property files
properties_fault : (properties : List Property) (handed : List (List ℕ)) → Faults (properties_stage properties handed)
properties_fault [] handed r never = absurd never
properties_fault (p ∷ properties) [] r never = absurd never
properties_fault (p ∷ properties) (b ∷ handed) r (inl (inl (at, wrong, is))) = is_fault _ _ _ r is
properties_fault (p ∷ properties) (b ∷ handed) r (inl (inr (u, utf8, (line, bad, is)))) = is_fault _ _ _ r is
properties_fault (p ∷ properties) (b ∷ handed) r (inr (u, passed, is)) = properties_fault properties handed r is

-- rule files
rules_fault : (options : Options) (inputs : Inputs) → Faults (rules_stage options inputs)
rules_fault options inputs r (inl is) = properties_fault options.properties inputs.properties r is
rules_fault options inputs r (inr (u, passed, inl (at, wrong, is))) = is_fault _ _ _ r is
rules_fault options inputs r (inr (u, passed, inr (x, text, (error, has, is)))) = is_fault _ _ _ r is

compiled_bytes_fault : (files : List File) (ignored : Bool) (bytes : List ℕ) → Faults (compiled_bytes_stage files ignored bytes)
compiled_bytes_fault files ignored bytes r (inl (at, wrong, is)) = is_fault _ _ _ r is
compiled_bytes_fault files ignored bytes r (inr (x, text, (error, has, is))) = is_fault _ _ _ r is

compiled_with_fault : (options : Options) (inputs : Inputs) → Faults (compiled_with options inputs)
compiled_with_fault options inputs = compiled_bytes_fault (property_files options.properties inputs.properties) options.ignored inputs.rules

compiled_fault : (options : Options) (inputs : Inputs) → Faults (compiled_stage options inputs)
compiled_fault options inputs r (inl is) = properties_fault options.properties inputs.properties r is
compiled_fault options inputs r (inr (u, passed, is)) = compiled_with_fault options inputs r is

-- faults that are reported of the second rule file
second_is_fault : (r : Refusal) → IsFault r → IsFault (told_of_second r)
unfolding IsFault
second_is_fault Usage is = is
second_is_fault (Unread name) is = is
second_is_fault (Fault subject.Rules label place) is = tt
second_is_fault (Fault subject.OtherRules label place) is = tt
second_is_fault (Fault subject.Table label place) is = tt
second_is_fault (Fault (subject.File name) label place) is = tt
second_is_fault Memory is = is

second_fault : {A : Type 0} (stage : Stage A) → Faults stage → Faults (as_second stage)
second_fault stage each r (told, refuses, is) = subst IsFault (sym is) (second_is_fault told (each told refuses))

second_stage_fault : (files : List File) (ignored : Bool) (inputs : Inputs) (rules : List Rule) → Faults (second_stage files ignored inputs rules)
second_stage_fault files ignored inputs rules r (inl is) =
    second_fault (compiled_bytes_stage files ignored inputs.other_rules) (compiled_bytes_fault files ignored inputs.other_rules) r is
second_stage_fault files ignored inputs rules r (inr (others, mean, never)) = absurd never

-- what boundaries come by
by_fault : (by_table : Bool) (options : Options) (inputs : Inputs) → Faults (basis_by by_table options inputs)
by_fault false options inputs r (inl is) = compiled_with_fault options inputs r is
by_fault false options inputs r (inr (rules, mean, never)) = absurd never
by_fault true options inputs r (inl is) = is_fault _ _ _ r is.is
by_fault true options inputs r (inr (table, spelled, never)) = absurd never

basis_fault : (options : Options) (inputs : Inputs) → Faults (basis_stage options inputs)
basis_fault options inputs r (inl is) = properties_fault options.properties inputs.properties r is
basis_fault options inputs r (inr (u, passed, is)) = by_fault options.by_table options inputs r is

-- texts
text_fault : (text : Input) → Faults (text_stage text)
text_fault text r (inl (at, wrong, is)) = is_fault _ _ _ r is
text_fault text r (inr (x, passed, is)) = is_fault _ _ _ r is.1

-- scripts and test files
lines_fault_is : (name : List ℕ) (e : LinesErr) (r : Refusal) → e ≢ lines.Memory → r ≡ lines_fault name e → IsFault r
lines_fault_is name (lines.NotUtf8 at) r some is = is_fault _ _ _ r is
lines_fault_is name (lines.BadLine line) r some is = is_fault _ _ _ r is
lines_fault_is name lines.Memory r some is = absurd (some refl)

script_fault : (script : Input) → Faults (script_stage script)
script_fault script r (inl is) = lines_fault_is _ is.error r is.not_memory is.is
script_fault script r (inr (written, read, never)) = absurd never

-- filter files
filter_fault : (kind : FilterKind) (file : Input) → Faults (filter_stage kind file)
filter_fault Abbreviations file r (inl is) = lines_fault_is _ is.error r is.not_memory is.is
filter_fault Abbreviations file r (inr (list, read, never)) = absurd never
filter_fault Pairs file r (inl is) = lines_fault_is _ is.error r is.not_memory is.is
filter_fault Pairs file r (inr (pairs, read, never)) = absurd never

-- what boundaries come by, also behind a filter
filtered_fault : (kind : Option FilterKind) (options : Options) (inputs : Inputs) → Faults (filtered_by kind options inputs)
filtered_fault None options inputs r (inl is) = basis_fault options inputs r is
filtered_fault None options inputs r (inr (basis, found, never)) = absurd never
filtered_fault (Some kind) options inputs r (inl is) = properties_fault options.properties inputs.properties r is
filtered_fault (Some kind) options inputs r (inr (u, passed, inl is)) = filter_fault kind inputs.filter r is
filtered_fault (Some kind) options inputs r (inr (u, passed, inr (filter, read, inl is))) = basis_fault options inputs r is
filtered_fault (Some kind) options inputs r (inr (u, passed, inr (filter, read, inr (basis, found, never)))) = absurd never

-- commands
pub command_fault : (command : Command) (request : Request) (inputs : Inputs) (r : Refusal)
    → (command_stage command request inputs).refuses r → IsFault r
command_fault Check request inputs r (inl is) = rules_fault request.options inputs r is
command_fault Check request inputs r (inr (rules, mean, never)) = absurd never
command_fault Compile request inputs r (inl is) = compiled_fault request.options inputs r is
command_fault Compile request inputs r (inr (rules, mean, never)) = absurd never
command_fault Upgrade request inputs r (inl is) = is_fault _ _ _ r is.is
command_fault Upgrade request inputs r (inr (table, passed, never)) = absurd never
command_fault Same request inputs r (inl is) = compiled_fault request.options inputs r is
command_fault Same request inputs r (inr (rules, mean, is)) = second_stage_fault _ _ inputs rules r is
command_fault Breaks request inputs r (inl is) = filtered_fault request.options.filter request.options inputs r is
command_fault Breaks request inputs r (inr (by, passed, inl is)) = text_fault inputs.text r is
command_fault Breaks request inputs r (inr (by, passed, inr (x, taken, never))) = absurd never
command_fault Run request inputs r (inl is) = filtered_fault request.options.filter request.options inputs r is
command_fault Run request inputs r (inr (by, passed, inl is)) = text_fault inputs.text r is
command_fault Run request inputs r (inr (by, passed, inr (x, taken, inl is))) = script_fault inputs.script r is
command_fault Run request inputs r (inr (by, passed, inr (x, taken, inr (commands, read, never)))) = absurd never
command_fault Tally request inputs r (inl is) = basis_fault request.options inputs r is
command_fault Tally request inputs r (inr (basis, passed, inl is)) = text_fault inputs.text r is
command_fault Tally request inputs r (inr (basis, passed, inr (x, taken, inl is))) = script_fault inputs.script r is
command_fault Tally request inputs r (inr (basis, passed, inr (x, taken, inr (commands, read, never)))) = absurd never
command_fault Conform request inputs r (inl is) = basis_fault request.options inputs r is
command_fault Conform request inputs r (inr (basis, passed, inl is)) = lines_fault_is _ is.error r is.not_memory is.is
command_fault Conform request inputs r (inr (basis, passed, inr (tests, read, never))) = absurd never
command_fault Demo request inputs r (inl never) = absurd never
command_fault Demo request inputs r (inr (count, written, inl is)) = compiled_bytes_fault _ _ _ r is
command_fault Demo request inputs r (inr (count, written, inr (rules, passed, never))) = absurd never
