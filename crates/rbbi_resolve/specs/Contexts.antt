-- What the statements before a place have made: the variables, and the effect of the controls.
use Rattle.std.specs.Prelude.{ℕ, Bool, Option, Some, None, List, [], ◌∷◌, encode_utf8_all, bytes_eq, if◌then◌else◌}
use Rattle.rbbi_model.specs.SetTrees as model
use Rattle.rbbi_props.specs.Rows.{File}
use Rattle.rbbi_resolve.specs.Meanings.{Meaning}

-- What a name stands for: a set, which has no value if a variable or a part in it is faulty; or an expression, with
-- its meaning and its height.
pub data Variable : Type 0 where
  Set : (value : Option model.SetTree) → Variable
  Expression : (meaning : Meaning) → (height : ℕ) → Variable

-- a name, as its bytes, and what its first assignment gives it
pub record Assigned : Type 0 where
  pub name : List ℕ
  pub variable : Variable

-- the property files; the names assigned so far; and what the controls so far have switched on
pub record Context : Type 0 where
  pub files : List File
  pub variables : List Assigned
  pub chained : Bool
  pub quoted_only : Bool
  pub active : Bool

-- what the list has for a name
abbrev pub assigned_to : List Assigned → List ℕ → Option Variable
assigned_to [] word = None
assigned_to (first ∷ more) word = if bytes_eq first.name word then Some first.variable else assigned_to more word

-- what a name stands for, if an earlier statement assigns it
abbrev pub variable_of : Context → List ℕ → Option Variable
variable_of context word = assigned_to context.variables (encode_utf8_all word)

-- the value of a name in a set: that of a set variable
abbrev pub value_of_variable : Option Variable → Option model.SetTree
value_of_variable None = None
value_of_variable (Some (Set value)) = value
value_of_variable (Some (Expression meaning height)) = None

-- the value of a name in a set
abbrev pub value_of_name : Context → List ℕ → Option model.SetTree
value_of_name context word = value_of_variable (variable_of context word)
