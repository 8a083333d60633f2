-- From the bytes of a rule file to its rules, and how its first fault is reported.
use Rattle.std.specs.Prelude.{◌≡◌, ℕ, Bool, List}
use Rattle.rbbi_model.specs.Rules.{Rule}
use Rattle.rbbi_props.specs.Rows.{File}
use Rattle.rbbi_compile.specs.declared.error.CompileErr.{CompileErr}
use Rattle.rbbi_compile.specs.Errors.{label_of, place_of}
use Rattle.rbbi_compile.specs.Rules.{text_of, MeansRules, HasRuleFault}
use Rattle.rbbi_command.specs.declared.refusal.Subject.TheVariants.{Rules}
use Rattle.rbbi_command.specs.declared.refusal.Refusal.{Refusal}
use Rattle.rbbi_command.specs.declared.refusal.Refusal.TheVariants.{Fault}
use Rattle.rbbi_command.specs.Refusals.{place_in}
use Rattle.rbbi_command.specs.Stages.{Stage, followed_by}
use Rattle.rbbi_tool.specs.Texts.{utf8_stage}
use Rattle.rbbi_command.specs.Settings.{Options}
use Rattle.rbbi_command.specs.Inputs.{Inputs}
use Rattle.rbbi_tool.specs.Properties.{properties_stage, property_files}

-- the refusal for an error in the text of a rule file
abbrev pub fault_in : List ℕ → CompileErr → Refusal
fault_in x error = Fault Rules (label_of error) (place_in x (place_of error))

-- the text has a fault, and it is reported
abbrev pub TellsFault : (CompileErr → Type 0) → List ℕ → Refusal → Type 0
TellsFault HasFault x refusal = (error : CompileErr) × HasFault error × (refusal ≡ fault_in x error)

-- the text of a rule file
abbrev pub rule_text_stage : List ℕ → Stage (List ℕ)
rule_text_stage bytes = utf8_stage Rules bytes (text_of bytes)

-- the rules that a text has, or its fault
abbrev pub told_stage : (List ℕ → List Rule → Type 0) → (List ℕ → CompileErr → Type 0) → List ℕ → Stage (List Rule)
told_stage HasRules HasFault x = record { passes = HasRules x; refuses = TellsFault (HasFault x) x }

-- the rules of the bytes of a rule file, with these property files
abbrev pub rule_bytes_stage : List File → Bool → List ℕ → Stage (List Rule)
rule_bytes_stage files ignored bytes = followed_by (rule_text_stage bytes) (told_stage (MeansRules files ignored) (HasRuleFault files ignored))

-- the rules of a rule file, after the property files that are passed
abbrev pub rules_stage : Options → Inputs → Stage (List Rule)
rules_stage options inputs =
    followed_by (properties_stage options.properties inputs.properties)
    (λ _. rule_bytes_stage (property_files options.properties inputs.properties) options.ignored inputs.rules)
