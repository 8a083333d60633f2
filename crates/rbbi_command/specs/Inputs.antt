-- The files of a request as they were read, each by what it is to the program.
use Rattle.std.specs.Prelude.{◌≤◌, ℕ, List, [], ◌∷◌, ◌++◌, length, fold}
use Rattle.std.specs.List.{AllByRecursion}
use Rattle.rbbi_text.specs.Bytes.{most_bytes}
use Rattle.rbbi_command.specs.declared.files.Role.{Role}
use Rattle.rbbi_command.specs.declared.files.Role.TheVariants as role
use Rattle.rbbi_command.specs.declared.files.Source.{Source}
use Rattle.rbbi_command.specs.declared.inputs.Input.{Input}
use Rattle.rbbi_command.specs.declared.inputs.Inputs as code

-- The bytes of the property files, in order, and what each other file holds. A file that a request doesn't name is empty.
pub record Inputs : Type 0 where
  pub properties : List (List ℕ)
  pub filter : Input
  pub rules : List ℕ
  pub other_rules : List ℕ
  pub table : List ℕ
  pub text : Input
  pub script : Input
  pub tests : Input

-- the inputs of the code
abbrev pub inputs_in : code.Inputs → Inputs
inputs_in inputs = record {
  properties = inputs.properties.items;
  filter = inputs.filter;
  rules = inputs.rules;
  other_rules = inputs.other_rules;
  table = inputs.table;
  text = inputs.text;
  script = inputs.script;
  tests = inputs.tests;
}

-- no file is read yet
abbrev pub no_inputs : Inputs
no_inputs =
    let none : Input = record { name = []; bytes = [] } in
    record { properties = []; filter = none; rules = []; other_rules = []; table = []; text = none; script = none; tests = none }

-- the inputs with a file of this role, this name and these bytes
abbrev pub put : Role → List ℕ → List ℕ → Inputs → Inputs
put role.Property name bytes inputs = record inputs { properties = inputs.properties ++ bytes ∷ [] }
put role.Filter name bytes inputs = record inputs { filter = record { name = name; bytes = bytes } }
put role.Rules name bytes inputs = record inputs { rules = bytes }
put role.OtherRules name bytes inputs = record inputs { other_rules = bytes }
put role.Table name bytes inputs = record inputs { table = bytes }
put role.Text name bytes inputs = record inputs { text = record { name = name; bytes = bytes } }
put role.Script name bytes inputs = record inputs { script = record { name = name; bytes = bytes } }
put role.Tests name bytes inputs = record inputs { tests = record { name = name; bytes = bytes } }

-- what the files of a list are to the program, where they hold this
abbrev pub inputs_of : (List ℕ → List ℕ) → List Source → Inputs
inputs_of held sources = fold (λ inputs source. put source.role source.name (held source.name) inputs) no_inputs sources

-- none has more bytes than are read at once
pub record AreShort (inputs : Inputs) : Type 0 where
  pub properties : AllByRecursion (λ bytes. length bytes ≤ most_bytes) inputs.properties
  pub filter : length inputs.filter.bytes ≤ most_bytes
  pub rules : length inputs.rules ≤ most_bytes
  pub other_rules : length inputs.other_rules ≤ most_bytes
  pub table : length inputs.table ≤ most_bytes
  pub text : length inputs.text.bytes ≤ most_bytes
  pub script : length inputs.script.bytes ≤ most_bytes
  pub tests : length inputs.tests.bytes ≤ most_bytes
