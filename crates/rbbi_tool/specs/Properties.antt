-- From the bytes of property files to their rows.
use Rattle.std.specs.Prelude.{◌≡◌, ℕ, List, [], ◌∷◌, codes}
use Rattle.rbbi_text.specs.Bytes.{file_lines}
use Rattle.rbbi_props.specs.Rows as rows
use Rattle.rbbi_props.specs.Files.{named_file}
use Rattle.rbbi_props.specs.Refusals.{HasRowsAlone, IsBadRow}
use Rattle.rbbi_command.specs.declared.words.setting.Property.{Property}
use Rattle.rbbi_command.specs.declared.refusal.Subject.TheVariants.{File}
use Rattle.rbbi_command.specs.declared.refusal.Place.TheVariants.{Row}
use Rattle.rbbi_command.specs.declared.refusal.Refusal.TheVariants.{Fault}
use Rattle.rbbi_command.specs.Stages.{Stage, followed_by, passing}
use Rattle.rbbi_tool.specs.Texts.{utf8_stage}

-- the bytes of a property file of this name are lines that are skipped and rows, or the first bad row is reported
abbrev pub rows_stage : List ℕ → List ℕ → Stage (Unit {0})
rows_stage name bytes = record {
  passes = λ _. HasRowsAlone bytes;
  refuses = λ refusal. (line : ℕ) × IsBadRow (file_lines bytes) line × (refusal ≡ Fault (File name) (codes "BadRow") (Row line));
}

-- the bytes of a property file: UTF-8, and then its rows
abbrev pub property_stage : List ℕ → List ℕ → Stage (Unit {0})
property_stage name bytes = followed_by (utf8_stage (File name) bytes (tt {0})) (λ _. rows_stage name bytes)

-- the bytes of the property files, each in order
abbrev pub properties_stage : List Property → List (List ℕ) → Stage (Unit {0})
properties_stage (property ∷ properties) (bytes ∷ handed) =
    followed_by (property_stage property.file bytes) (λ _. properties_stage properties handed)
properties_stage properties handed = passing (λ _. Unit {0})

-- the property files under the names of their properties
abbrev pub property_files : List Property → List (List ℕ) → List rows.File
property_files (property ∷ properties) (bytes ∷ handed) = named_file property.name bytes ∷ property_files properties handed
property_files properties handed = []
