-- What `same` answers.
use Rattle.std.specs.Prelude.{◌≡◌, ◌≢◌, ◌⊎◌, ℕ, ◌+◌, ◌/◌, ◌%◌, Bool, nat_lt, if◌then◌else◌, List, [], ◌∷◌, ◌++◌, None, codes}
use Rattle.std.specs.List.{flat_map}
use Rattle.rbbi_model.specs.Words.{IsText}
use Rattle.rbbi_model.specs.Rules.{Rule}
use Rattle.rbbi_model.specs.Marks.{Marks, AreMarks}
use Rattle.rbbi_model.specs.Lines.{line}
use Rattle.rbbi_props.specs.Rows.{File}
use Rattle.rbbi_command.specs.Settings.{Options}
use Rattle.rbbi_command.specs.Inputs.{Inputs}
use Rattle.rbbi_command.specs.declared.refusal.Subject.TheVariants.{Rules, OtherRules}
use Rattle.rbbi_command.specs.declared.refusal.Refusal.{Refusal}
use Rattle.rbbi_command.specs.declared.refusal.Refusal.TheVariants.{Fault}
use Rattle.rbbi_command.specs.Stages.{Stage, followed_by, passing}
use Rattle.rbbi_command.specs.Refusals.{Outcome, printed}
use Rattle.rbbi_tool.specs.Properties.{property_files}
use Rattle.rbbi_tool.specs.Basis.{compiled_bytes_stage, compiled_stage}

-- there are marks that the text has by both rules
abbrev pub AgreeAfter : List Rule → List Rule → List ℕ → Type 0
AgreeAfter rules others w = (marks : Marks) × AreMarks rules w marks × AreMarks others w marks

-- after every text that isn't empty both rules have the same marks
abbrev pub HaveSameMarks : List Rule → List Rule → Type 0
HaveSameMarks rules others = (w : List ℕ) → IsText w → w ≢ [] → AgreeAfter rules others w

-- a text that isn't empty, after which the rules have different marks
pub record DifferAfter (rules others : List Rule) (w : List ℕ) : Type 0 where
  pub is_text : IsText w
  pub some : w ≢ []
  pub marks : Marks
  pub other_marks : Marks
  pub are_marks : AreMarks rules w marks
  pub are_others : AreMarks others w other_marks
  pub differ : marks ≢ other_marks

-- the hexadecimal digit of a number below 16, in upper case
abbrev pub hexadecimal_digit : ℕ → ℕ
hexadecimal_digit n = if nat_lt n 10 then 48 + n else 55 + n

-- the last four hexadecimal digits of a number
abbrev pub last_digits : ℕ → List ℕ
last_digits n =
    hexadecimal_digit (n / 4096 % 16) ∷ hexadecimal_digit (n / 256 % 16) ∷ hexadecimal_digit (n / 16 % 16) ∷ hexadecimal_digit (n % 16) ∷ []

-- a code point in four hexadecimal digits, or five or six where it needs them
abbrev pub code_point_digits : ℕ → List ℕ
code_point_digits c =
    if nat_lt c 65536 then last_digits c
    else (if nat_lt c 1048576 then hexadecimal_digit (c / 65536 % 16) ∷ last_digits c
    else hexadecimal_digit (c / 1048576 % 16) ∷ hexadecimal_digit (c / 65536 % 16) ∷ last_digits c)

-- the text is reported, a space and a code point for each character, with status 1
abbrev pub told_difference : List ℕ → Outcome
told_difference w = record { status = 1; bytes = line (codes "differ" ++ flat_map (λ c. 32 ∷ code_point_digits c) w); file = None }

-- the rules have the same marks after every text, and this is reported; or one text is, after which they differ
abbrev pub IsComparison : List Rule → List Rule → Outcome → Type 0
IsComparison rules others outcome =
    (HaveSameMarks rules others × (outcome ≡ printed (line (codes "same")))) ⊎
    ((w : List ℕ) × DifferAfter rules others w × (outcome ≡ told_difference w))

-- a fault of the rule file, told of the second rule file
abbrev pub told_of_second : Refusal → Refusal
told_of_second (Fault Rules label place) = Fault OtherRules label place
told_of_second refusal = refusal

-- the stage, whose faults are reported of the second rule file
abbrev pub as_second : {A : Type 0} → Stage A → Stage A
as_second {A} stage =
    record { passes = stage.passes; refuses = λ refusal. (told : Refusal) × stage.refuses told × (refusal ≡ told_of_second told) }

-- the second rule file, and then whether it has the same marks as these rules
abbrev pub second_stage : List File → Bool → Inputs → List Rule → Stage Outcome
second_stage files ignored inputs rules =
    followed_by (as_second (compiled_bytes_stage files ignored inputs.other_rules)) (λ others. passing (IsComparison rules others))

-- whether two rule files have the same marks, with the property files that are passed for both: the first, and then the second
abbrev pub same_stage : Options → Inputs → Stage Outcome
same_stage options inputs =
    followed_by (compiled_stage options inputs)
    (second_stage (property_files options.properties inputs.properties) options.ignored inputs)
