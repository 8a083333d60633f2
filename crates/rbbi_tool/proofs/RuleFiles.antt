-- How rule files are refused.
use Rattle.std.proofs.Common.{◌≡◌, ◌≢◌, ◌⊎◌, ℕ, Bool, List, inl, inr, ⊎_elim, ap, ◌∙◌, subst}
use Rattle.std.specs.Prelude.{Result}
use Rattle.rbbi_props.specs.Rows.{File}
use Rattle.rbbi_compile.specs.declared.error.CompileErr.{CompileErr}
use Rattle.rbbi_compile.specs.declared.error.CompileErr.TheVariants as error
use Rattle.rbbi_resolve.specs.RuleLists.{RuleList, rules_of}
use Rattle.rbbi_command.specs.Settings.{Options}
use Rattle.rbbi_command.specs.Inputs.{Inputs}
use Rattle.rbbi_command.specs.declared.refusal.Refusal.{Refusal}
use Rattle.rbbi_command.specs.declared.refusal.Refusal.TheVariants.{Memory}
use Rattle.rbbi_tool.specs.inner.Stages.{Meets}
use Rattle.rbbi_tool.specs.Properties.{properties_stage, property_files}
use Rattle.rbbi_tool.specs.Rules.{fault_in, TellsFault, rule_bytes_stage, rules_stage}
use Rattle.rbbi_tool.specs.Basis.{compiled_bytes_stage}
use Rattle.rbbi_tool.specs.Command.Same.{told_of_second, as_second}
use Rattle.rbbi_tool.proofs.StageLemmas.{goes_on}

-- what is told of an error of a text
pub told_refuses : (HasFault : CompileErr → Type 0) (x : List ℕ) (e : CompileErr) (told : Refusal) → (e ≡ error.Memory) ⊎ HasFault e
    → (told ≡ Memory) ⊎ ((e ≢ error.Memory) × (told ≡ fault_in x e)) → (told ≡ Memory) ⊎ TellsFault HasFault x told
told_refuses HasFault x e told cause (inl memory) = inl memory
told_refuses HasFault x e told (inl memory) (inr (some, is)) = absurd (some memory)
told_refuses HasFault x e told (inr has) (inr (some, is)) = inr (e, has, is)

-- the rules of a rule file that was read, behind property files that were read
pub rules_read : (options : Options) (inputs : Inputs) (files : List File) (read : List ℕ) (result : Result RuleList Refusal)
    → (properties_stage options.properties inputs.properties).passes tt → files ≡ property_files options.properties inputs.properties
    → read ≡ inputs.rules → Meets rules_of (rule_bytes_stage files options.ignored read) result → Meets rules_of (rules_stage options inputs) result
rules_read options inputs files read result passed same same' met =
    let handed = property_files options.properties inputs.properties in
    goes_on (properties_stage options.properties inputs.properties) (λ _. rule_bytes_stage handed options.ignored inputs.rules) rules_of tt result passed
    (subst (λ b. Meets rules_of (rule_bytes_stage handed options.ignored b) result) same'
    (subst (λ fs. Meets rules_of (rule_bytes_stage fs options.ignored read) result) same met))

-- a fault of the second rule file
pub second_refuses : (files : List File) (ignored : Bool) (read bytes : List ℕ) (first told : Refusal) → read ≡ bytes
    → (first ≡ Memory) ⊎ (compiled_bytes_stage files ignored read).refuses first → told ≡ told_of_second first
    → (told ≡ Memory) ⊎ (as_second (compiled_bytes_stage files ignored bytes)).refuses told
second_refuses files ignored read bytes first told same refused is =
    ⊎_elim (λ memory. inl (is ∙ ap told_of_second memory))
    (λ refuses. inr (first, subst (λ b. (compiled_bytes_stage files ignored b).refuses first) same refuses, is)) refused
