-- What is added to property files for the properties that the rules of a text ask for.
use Rattle.std.specs.Prelude.{◌≡◌, ℕ, ◌≤◌, true, false, List, ◌++◌, Some, encode_utf8_all}
use Rattle.std.specs.List.{All}
use Rattle.rbbi_sets.specs.Covers.{covers}
use Rattle.rbbi_lex.specs.declared.token.Token.{Token}
use Rattle.rbbi_lex.specs.declared.token.TokenKind.{TokenKind}
use Rattle.rbbi_lex.specs.declared.token.TokenKind.TheVariants.{Prop}
use Rattle.rbbi_lex.specs.Lexing.{AreTokens}
use Rattle.rbbi_props.specs.LooseForms.{loose}
use Rattle.rbbi_props.specs.Lookups.{ranges_of}
use Rattle.rbbi_props.specs.Rows.{Row, File}
use Rattle.rbbi_props.specs.RunRows.{has_file}
use Rattle.rbbi_builtin.specs.declared.property.Property.{Property}
use Rattle.rbbi_builtin.specs.Properties.{property_named, wants_file, has_value}

-- by the rows each code point has the value of each name that the kit's table gives it, and no other
abbrev pub HasValues : Property → List Row → Type 0
HasValues property rows = (c : ℕ) (value : List ℕ) → c ≤ 0x10FFFF → covers (ranges_of rows value) c ≡ has_value property value c

-- the file is that of a property that is built in, under one of its names, which no earlier file has
pub record IsBuiltIn (before : List File) (file : File) : Type 0 where
  pub property : Property
  pub name : List ℕ
  pub named : property_named name ≡ Some property
  pub wanted : wants_file property ≡ true
  pub under : file.name ≡ loose name
  pub first : has_file before (loose name) ≡ false
  pub values : HasValues property file.rows

-- files are added, all of them built in
pub record AddsBuiltIn (old new : List File) : Type 0 where
  pub added : List File
  pub whole : new ≡ old ++ added
  pub built_in : All (IsBuiltIn old) added

-- there is a file for the property that a token asks for with a value, if it is built in
abbrev pub IsAnswered : List File → List ℕ → Type 0
IsAnswered files name = (p : Property) → property_named name ≡ Some p → wants_file p ≡ true → has_file files (loose name) ≡ true

abbrev pub IsFilledFor : List File → TokenKind → Type 0
IsFilledFor files (Prop negated name (Some value)) = IsAnswered files (encode_utf8_all name)
IsFilledFor files _ = Unit {0}

-- files are added for the tokens of a text
pub record IsFilled (text : List ℕ) (old new : List File) : Type 0 where
  pub adds : AddsBuiltIn old new
  pub asked : (tokens : List Token) → AreTokens text tokens → All (λ token. IsFilledFor new token.kind) tokens
