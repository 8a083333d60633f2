-- The options between the word of a command and its first operand.
use Rattle.std.specs.Prelude.{◌≡◌, ◌≢◌, ℕ, ◌-◌, Bool, true, false, not, ◌&&◌, ◌||◌, ◌==◌, nat_le, if◌then◌else◌, List, [], ◌∷◌, ◌++◌, length, codes, count_by}
use Rattle.std.specs.Prelude.{filter_map, fold, Option, Some, None, is_some, unwrap_or}
use Rattle.std.specs.Option.{option_or}
use Rattle.std.specs.List.{list_any, list_all, flat_map, AllByRecursion}
use Rattle.std.specs.Char.{is_ascii_alphanumeric}
use Rattle.rbbi_model.specs.declared.unit.Unit.{Unit as TextUnit}
use Rattle.rbbi_model.specs.declared.unit.Unit.TheVariants.{Chars, Utf8, Utf16}
use Rattle.rbbi_command.specs.declared.words.setting.Property.{Property}
use Rattle.rbbi_command.specs.declared.words.setting.FilterKind.{FilterKind}
use Rattle.rbbi_command.specs.declared.words.setting.FilterKind.TheVariants.{Abbreviations, Pairs}
use Rattle.rbbi_command.specs.declared.words.setting.Setting.{Setting}
use Rattle.rbbi_command.specs.declared.words.setting.Setting.TheVariants.{HandIn, IgnoreDictionary, ByTable, CountIn, Suppress, Tailor}
use Rattle.rbbi_command.specs.declared.files.Role.TheVariants as role
use Rattle.rbbi_command.specs.declared.files.Source.{Source}
use Rattle.rbbi_command.specs.declared.words.command.Takes.{Takes}
use Rattle.rbbi_command.specs.declared.words.command.Takes.TheVariants.{NoOptions, RuleOptions, RuleOptionsOrTable, RuleOptionsOrTableAndTelling}

-- whether a byte may stand in the name of a property: a letter, a digit, a space, `_` or `-`
abbrev pub is_property_name_byte : ℕ → Bool
is_property_name_byte byte = is_ascii_alphanumeric byte || ((byte == 32) || ((byte == 95) || (byte == 45)))

-- whether a word is the name of a property: of such bytes, with a letter or digit
abbrev pub is_property_name : List ℕ → Bool
is_property_name name = list_any is_ascii_alphanumeric name && list_all is_property_name_byte name

-- an option is of its form: a property file has the name of a property, and a name of its own that isn't empty
abbrev pub IsSetting : Setting → Type 0
IsSetting (HandIn property) = (is_property_name property.name ≡ true) × (property.file ≢ [])
IsSetting setting = Unit {0}

-- the word of a unit
abbrev pub unit_word : TextUnit → List ℕ
unit_word Chars = codes "chars"
unit_word Utf8 = codes "utf8"
unit_word Utf16 = codes "utf16"

-- the words of an option. The name of a property has no `=`, so the first one ends it.
abbrev pub spelled : Setting → List (List ℕ)
spelled (HandIn property) = codes "--prop" ∷ (property.name ++ 61 ∷ property.file) ∷ []
spelled IgnoreDictionary = codes "--ignore-dictionary" ∷ []
spelled ByTable = codes "--table" ∷ []
spelled (CountIn unit) = codes "--units" ∷ unit_word unit ∷ []
spelled (Suppress file) = codes "--suppress" ∷ file ∷ []
spelled (Tailor file) = codes "--tailor" ∷ file ∷ []

-- the property file that an option names
abbrev pub property_of : Setting → Option Property
property_of (HandIn property) = Some property
property_of setting = None

-- whether the option lets `$dictionary` be a variable like others
abbrev pub is_ignoring : Setting → Bool
is_ignoring IgnoreDictionary = true
is_ignoring setting = false

-- whether the option says that the first operand is a table file
abbrev pub is_by_table : Setting → Bool
is_by_table ByTable = true
is_by_table setting = false

-- whether one of the options says that the first operand is a table file
abbrev pub are_by_table : List Setting → Bool
are_by_table settings = list_any is_by_table settings

-- whether the option says how boundaries are reported: in a unit, or through a filter
abbrev pub is_telling : Setting → Bool
is_telling (CountIn unit) = true
is_telling (Suppress file) = true
is_telling (Tailor file) = true
is_telling setting = false

-- the unit that an option names
abbrev pub unit_in : Setting → Option TextUnit
unit_in (CountIn unit) = Some unit
unit_in setting = None

-- the unit that the options name, or characters where none does
abbrev pub unit_of : List Setting → TextUnit
unit_of settings = fold (λ unit setting. unwrap_or (unit_in setting) unit) Chars settings

-- what the filter file has that an option names
abbrev pub filter_in : Setting → Option FilterKind
filter_in (Suppress file) = Some Abbreviations
filter_in (Tailor file) = Some Pairs
filter_in setting = None

-- what the filter file has that the options name, if they name one
abbrev pub filter_of : List Setting → Option FilterKind
filter_of settings = fold (λ filter setting. option_or (filter_in setting) filter) None settings

-- the file that an option names to be read
abbrev pub source_in : Setting → Option Source
source_in (HandIn property) = Some (record { role = role.Property; name = property.file })
source_in (Suppress file) = Some (record { role = role.Filter; name = file })
source_in (Tailor file) = Some (record { role = role.Filter; name = file })
source_in setting = None

-- what options come to: the files that they name to be read, the property files among them, whether `$dictionary` is a variable like
-- others, whether the first operand is a table file, the unit of places, numbers and lengths, and what the filter file has, if there is one
pub record Options : Type 0 where
  pub files : List Source
  pub properties : List Property
  pub ignored : Bool
  pub by_table : Bool
  pub unit : TextUnit
  pub filter : Option FilterKind

abbrev pub options_of : List Setting → Options
options_of settings = record {
  files = filter_map source_in settings;
  properties = filter_map property_of settings;
  ignored = list_any is_ignoring settings;
  by_table = are_by_table settings;
  unit = unit_of settings;
  filter = filter_of settings;
}

-- whether there are at most 16 property files, and `$dictionary` is ignored once at most
abbrev pub are_few : List Setting → Bool
are_few settings = nat_le (count_by (λ setting. is_some (property_of setting)) settings) 16 && nat_le (count_by is_ignoring settings) 1

-- Whether the options say what defines the boundaries: a table file, and then only options on how boundaries are reported may be there
-- too; or rules.
abbrev pub are_basis : List Setting → Bool
are_basis settings = if are_by_table settings then length settings - count_by is_telling settings == 1 else are_few settings

-- Whether a command that takes such options takes these: none; those on rule files; or also the one that says that there is a table; or
-- besides one on how boundaries are reported.
abbrev pub are_taken : Takes → List Setting → Bool
are_taken NoOptions settings = length settings == 0
are_taken RuleOptions settings = not (are_by_table settings) && are_few settings && (count_by is_telling settings == 0)
are_taken RuleOptionsOrTable settings = are_basis settings && (count_by is_telling settings == 0)
are_taken RuleOptionsOrTableAndTelling settings = are_basis settings && nat_le (count_by is_telling settings) 1

-- the first word, if there is one, doesn't begin with `--`
abbrev pub BeginsWithoutOption : List (List ℕ) → Type 0
BeginsWithoutOption [] = Unit {0}
BeginsWithoutOption (word ∷ words) = (rest : List ℕ) → word ≢ codes "--" ++ rest

-- the words are these options, and then these further words, of which the first doesn't begin as an option does
pub record BeginWithSettings (words : List (List ℕ)) (settings : List Setting) (rest : List (List ℕ)) : Type 0 where
  pub are : words ≡ flat_map spelled settings ++ rest
  pub each : AllByRecursion IsSetting settings
  pub no_option : BeginsWithoutOption rest
