-- The table that is asked for, and the boundaries that it gives.
use Rattle.std.specs.Prelude.{◌≡◌, ℕ, Bool, List, [], ◌∷◌, ◌++◌, Option}
use Rattle.rbbi_model.specs.Boundaries.{Boundary}
use Rattle.rbbi_model.specs.Searches.{table_boundaries}
use Rattle.rbbi_model.specs.TableFile.{IsSpelling}
use Rattle.rbbi_model.specs.Tables.{Table}
use Rattle.rbbi_model.specs.ValidTables.{IsValidTable}
use Rattle.rbbi_model.specs.Words.{IsText}
use Rattle.rbbi_props.specs.Rows.{File}
use Rattle.rbbi_props.specs.Files.{named_file}
use Rattle.rbbi_compile.specs.Rules.{text_of}
use Rattle.rbbi_builtin.specs.Compiling.{CompilesOver}
use Rattle.rbbi_segment_tables.specs.BuiltIn.{boundaries_of, IsBuiltIn}
use Rattle.rbbi_segment.specs.declared.options.Basis.{Basis}
use Rattle.rbbi_segment.specs.declared.options.Basis.TheVariants.{BuiltIn, Rules, Table as OfFile}
use Rattle.rbbi_segment.specs.declared.options.Property.{Property}
use Rattle.rbbi_segment.specs.declared.options.Request.{Request}
use Rattle.rbbi_segment.specs.Contents.{IsRead}

-- The rows of a property file were read and added under its name. `left` is what standard input then has.
abbrev pub AddsProperty : Option (List ℕ → List ℕ) → Option (List ℕ) → Property → List File → List File → Option (List ℕ) → Type 0
AddsProperty contents input property old new left =
    (bytes : List ℕ) × IsRead contents input property.file.now bytes left × (new ≡ old ++ named_file property.name.now bytes ∷ [])

-- the rows are those of these property files and no others, which were read one after the other
pub data ArePropertiesOf (contents : Option (List ℕ → List ℕ)) (input : Option (List ℕ)) : List Property → List File → Option (List ℕ) → Type 0 where
  NoFile : ArePropertiesOf contents input [] [] input
  OneFile : (given : List Property) (property : Property) (old new : List File) (between left : Option (List ℕ)) →
      ArePropertiesOf contents input given old between → AddsProperty contents between property old new left →
      ArePropertiesOf contents input (given ++ property ∷ []) new left

-- The table is the least one of the rules that the file of this name means, over these property files and what is built in.
abbrev pub IsRulesTable : Option (List ℕ → List ℕ) → Option (List ℕ) → List ℕ → List File → Bool → Table → Option (List ℕ) → Type 0
IsRulesTable contents input name files ignored table left =
    (bytes : List ℕ) × IsRead contents input name bytes left × CompilesOver files ignored (text_of bytes) table

-- the same over the property files that are asked for, which were read before
abbrev pub IsCompiledOver : Option (List ℕ → List ℕ) → Option (List ℕ) → Request → List ℕ → Table → Option (List ℕ) → Type 0
IsCompiledOver contents input request name table left =
    (files : List File) × (between : Option (List ℕ)) × ArePropertiesOf contents input request.properties.items files between
    × IsRulesTable contents between name files request.ignore_dictionary table left

-- the bytes spell the table
abbrev pub IsSpelled : List ℕ → Table → Type 0
IsSpelled bytes table = IsValidTable table × IsSpelling bytes table

-- the bytes of the file of this name spell the table
abbrev pub IsFileTable : Option (List ℕ → List ℕ) → Option (List ℕ) → List ℕ → Table → Option (List ℕ) → Type 0
IsFileTable contents input name table left = (bytes : List ℕ) × IsRead contents input name bytes left × IsSpelled bytes table

-- The table is the one that is asked for: the built-in one of a kind, that of a rule file, or that of a table file.
abbrev pub IsTableOf : Option (List ℕ → List ℕ) → Option (List ℕ) → Request → Basis → Table → Option (List ℕ) → Type 0
IsTableOf contents input request (BuiltIn kind) table left = IsBuiltIn kind table × (left ≡ input)
IsTableOf contents input request (Rules name) table left = IsCompiledOver contents input request name.now table left
IsTableOf contents input request (OfFile name) table left = IsFileTable contents input name.now table left

-- the boundaries of a text: those of a built-in kind, which an annex gives if the kind has one, otherwise those by the table
abbrev pub breaks_of : Basis → Table → List ℕ → List Boundary
breaks_of (BuiltIn kind) table = boundaries_of kind table
breaks_of (Rules name) table = table_boundaries table
breaks_of (OfFile name) table = table_boundaries table

-- the table gives these boundaries of each text
abbrev pub GivesBreaks : Table → (List ℕ → List Boundary) → Type 0
GivesBreaks table breaks = (x : List ℕ) → IsText x → table_boundaries table x ≡ breaks x
