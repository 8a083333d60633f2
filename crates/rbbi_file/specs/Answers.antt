-- What reading a table file answers, by cases on the answer.
use Rattle.std.specs.Prelude.{◌≡◌, ◌≢◌, ℕ, ◌<◌, ◌≤◌, ◌⊎◌, List, length, Result, Ok, Err}
use Rattle.rbbi_model.specs.Tables.{Table}
use Rattle.rbbi_model.specs.ValidTables.{IsValidTable}
use Rattle.rbbi_model.specs.TableFile.{IsSpelling}
use Rattle.rbbi_table.specs.declared.error.TableErr.{TableErr}
use Rattle.rbbi_table.specs.declared.error.TableErr.TheVariants as table
use Rattle.rbbi_table.specs.Answers.{MakesTable}
use Rattle.rbbi_file.specs.declared.error.FileErr.{FileErr}
use Rattle.rbbi_file.specs.declared.error.FileErr.TheVariants.{BadMagic, Short, Trailing, Part, Memory}
use Rattle.rbbi_file.specs.Lengths.{HasMagic, version_in, parts_end}
use Rattle.rbbi_file.specs.Fitting.{Spell}

-- the version has tables of these parts: in version 1 they have at most 255 categories
abbrev pub HasTablesOf : ℕ → Table → Type 0
HasTablesOf version parts = version ≡ 1 → parts.categories ≤ 255

-- The first of the parts that isn't valid: the ranges where the version has no tables of so many categories, and otherwise that which makes no table.
abbrev pub IsFirstBad : ℕ → Table → TableErr → Type 0
IsFirstBad version parts error =
    (¬ HasTablesOf version parts × (error ≡ table.BadRanges)) ⊎ (HasTablesOf version parts × MakesTable parts (Err error) × (error ≢ table.Memory))

-- The bytes spell parts, of which the error tells the first that isn't valid.
pub record SpellBadParts (bytes : List ℕ) (error : TableErr) : Type 0 where
  pub parts : Table
  pub spelled : Spell bytes parts
  pub bad : IsFirstBad (version_in bytes) parts error

-- The table that the bytes spell, or the first fault. `Memory` doesn't depend on the bytes.
abbrev pub ReadsTable : List ℕ → Result Table FileErr → Type 0
ReadsTable bytes (Ok table) = IsValidTable table × IsSpelling bytes table
ReadsTable bytes (Err BadMagic) = ¬ HasMagic bytes
ReadsTable bytes (Err (Short at)) = HasMagic bytes × (length bytes < parts_end bytes) × (at ≡ length bytes)
ReadsTable bytes (Err (Trailing at)) = HasMagic bytes × (parts_end bytes < length bytes) × (at ≡ parts_end bytes)
ReadsTable bytes (Err (Part error)) = SpellBadParts bytes error
ReadsTable bytes (Err Memory) = Unit {0}

-- the answer is this table, or that memory is refused
abbrev pub IsTableOrMemory : Table → Result Table FileErr → Type 0
IsTableOrMemory wanted (Ok table) = table ≡ wanted
IsTableOrMemory wanted (Err error) = error ≡ Memory

-- if the bytes are a spelling of a valid table, that table is read, unless memory runs out
abbrev pub ReadsEachSpelling : List ℕ → Result Table FileErr → Type 0
ReadsEachSpelling bytes answer = (table : Table) → IsValidTable table → IsSpelling bytes table → IsTableOrMemory table answer
