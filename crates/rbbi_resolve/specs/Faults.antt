-- The kinds of faults, which fault comes first, and the faults of the parts of an expression.
use Rattle.std.specs.Prelude.{ℕ, Bool, true, false, not, ◌&&◌, ◌||◌, nat_lt, nat_eq, is_none, Option, Some, None, List, [], ◌∷◌, ◌++◌, fold}
use Rattle.std.specs.Prelude.{if◌then◌else◌}
use Rattle.rbbi_model.specs.SetTrees as model
use Rattle.rbbi_props.specs.Rows.{File}
use Rattle.rbbi_tree.specs.Trees.{character, name, property, set, set_range, set_name, set_property}
use Rattle.rbbi_resolve.specs.declared.fault.Fault.{Fault}
use Rattle.rbbi_resolve.specs.declared.fault.FaultKind.{FaultKind}
use Rattle.rbbi_resolve.specs.declared.fault.FaultKind.TheVariants as kinds
use Rattle.rbbi_resolve.specs.Contexts.{Variable, Set, Expression, Context, variable_of, value_of_name}
use Rattle.rbbi_resolve.specs.Parts.{Part, Outside, Within}
use Rattle.rbbi_resolve.specs.SetValues.{property_test, value_of_set, value_of_property}
use Rattle.rbbi_resolve.specs.Emptiness.{holds_character}

-- the number of a kind in the order of kinds, from 0
abbrev pub rank : FaultKind → ℕ
rank kinds.UnknownControl = 0
rank kinds.UnsupportedControl = 1
rank kinds.Dictionary = 2
rank kinds.Redefined = 3
rank kinds.Undefined = 4
rank kinds.NotASet = 5
rank kinds.UnknownProperty = 6
rank kinds.BadRange = 7
rank kinds.EmptySet = 8
rank kinds.BareLiteral = 9
rank kinds.EmptyFront = 10
rank kinds.EmptyRest = 11
rank kinds.NoRules = 12
rank kinds.TooManyRules = 13
rank kinds.TooManyLeaves = 14
rank kinds.TooManySlashes = 15
rank kinds.TooTall = 16

-- the fault of this kind at the place, if the test holds
abbrev pub faults_where : Bool → ℕ → FaultKind → List Fault
faults_where false place kind = []
faults_where true place kind = record { place = place; kind = kind } ∷ []

-- the place of a part
abbrev pub place_of_part : Part → ℕ
place_of_part (Outside place atom) = place
place_of_part (Within place item) = place

-- `Undefined`: a use of a name that no earlier statement assigns
abbrev pub is_undefined : Context → Part → Bool
is_undefined context (Outside place (name word)) = is_none (variable_of context word)
is_undefined context (Within place (set_name word)) = is_none (variable_of context word)
is_undefined context _ = false

-- whether a name stands for an expression that is no set
abbrev pub is_expression : Option Variable → Bool
is_expression None = false
is_expression (Some (Set value)) = false
is_expression (Some (Expression meaning height)) = true

-- `NotASet`: a use in a set of an assigned name that is no set variable
abbrev pub is_not_a_set : Context → Part → Bool
is_not_a_set context (Within place (set_name word)) = is_expression (variable_of context word)
is_not_a_set context _ = false

-- `UnknownProperty`: neither the files nor the database have the property
abbrev pub is_unknown_property : Context → Part → Bool
is_unknown_property context (Outside place (property negated word value)) = is_none (property_test context.files word value)
is_unknown_property context (Within place (set_property negated word value)) = is_none (property_test context.files word value)
is_unknown_property context _ = false

-- `BadRange`: a range whose first character is greater than its last
abbrev pub is_bad_range : Context → Part → Bool
is_bad_range context (Within place (set_range first last)) = nat_lt last first
is_bad_range context _ = false

-- whether a value holds no character
abbrev pub is_empty_value : List File → Option model.SetTree → Bool
is_empty_value files None = false
is_empty_value files (Some tree) = not (holds_character files tree)

-- `EmptySet`: a set or property that stands as an atom, with a value that holds no character
abbrev pub is_empty_set : Context → Part → Bool
is_empty_set context (Outside place (property negated word value)) =
    is_empty_value context.files (value_of_property context.files negated word value)
is_empty_set context (Outside place (set s)) =
    is_empty_value context.files (value_of_set context.files (value_of_name context) s)
is_empty_set context _ = false

-- `BareLiteral`: a bare character outside of sets, if only quoted ones may stand there
abbrev pub is_bare_literal : Context → Part → Bool
is_bare_literal context (Outside place (character c bare)) = bare && context.quoted_only
is_bare_literal context _ = false

-- the faults of a part
abbrev pub faults_of_part : Context → Part → List Fault
faults_of_part context part =
    faults_where (is_undefined context part) (place_of_part part) kinds.Undefined
    ++ (faults_where (is_not_a_set context part) (place_of_part part) kinds.NotASet
    ++ (faults_where (is_unknown_property context part) (place_of_part part) kinds.UnknownProperty
    ++ (faults_where (is_bad_range context part) (place_of_part part) kinds.BadRange
    ++ (faults_where (is_empty_set context part) (place_of_part part) kinds.EmptySet
    ++ faults_where (is_bare_literal context part) (place_of_part part) kinds.BareLiteral))))

-- the faults of parts
abbrev pub faults_of_parts : Context → List Part → List Fault
faults_of_parts context [] = []
faults_of_parts context (part ∷ parts) = faults_of_part context part ++ faults_of_parts context parts

-- a fault comes before another: at a lesser place, or at the same place by its kind
abbrev pub comes_before : Fault → Fault → Bool
comes_before f g = nat_lt f.place g.place || (nat_eq f.place g.place && nat_lt (rank f.kind) (rank g.kind))

-- the earlier of what was noted and a fault
abbrev pub noted_one : Option Fault → Fault → Option Fault
noted_one None f = Some f
noted_one (Some g) f = if comes_before f g then Some f else Some g

-- the earliest of what was noted and the faults
abbrev pub noted : Option Fault → List Fault → Option Fault
noted least faults = fold noted_one least faults
