-- Values of sets by classes of code points, read at the first code point of each.
use Rattle.std.specs.Prelude.{ℕ, ◌↔◌, Option, Some, None, List, option_map, chars, string_bytes}
use Rattle.std.specs.HashMap.{values}
use Rattle.std.specs.List.{All}
use Rattle.std.specs.Rc.{rc_value}
use Rattle.rbbi_model.specs.Ranges.{Range, Has}
use Rattle.rbbi_model.specs.SetTrees as model
use Rattle.rbbi_classes.specs.Classes.{ClassBits, HasMember, IsFirstOfClass}
use Rattle.rbbi_classes.specs.Divisions.{IsDivision}
use Rattle.rbbi_props.specs.Rows.{File}
use Rattle.rbbi_resolve.specs.declared.classes.Classes.{Classes}
use Rattle.rbbi_resolve.specs.declared.classes.PropertyClasses.{PropertyClasses}
use Rattle.rbbi_resolve.specs.declared.division.Divided.{Divided}
use Rattle.rbbi_resolve.specs.SetValues.{HasProperty, value_of_property}

-- the classes are those whose first code point is in the set
abbrev pub AreClassesOf : List File → List ℕ → model.SetTree → ClassBits → Type 0
AreClassesOf files bounds tree set = (c : ℕ) → IsFirstOfClass bounds c → HasMember bounds set c ↔ model.InSet (HasProperty files) tree c

-- the classes are those of the value, if it has one, and absent if not
abbrev pub IsClassValue : List File → List ℕ → Option model.SetTree → Option ClassBits → Type 0
IsClassValue files bounds None None = Unit {0}
IsClassValue files bounds None (Some set) = ⊥
IsClassValue files bounds (Some tree) None = ⊥
IsClassValue files bounds (Some tree) (Some set) = AreClassesOf files bounds tree set

-- the set is the value of the property
abbrev pub IsKnown : List File → List ℕ → PropertyClasses → Type 0
IsKnown files bounds known =
    IsClassValue files bounds
    (value_of_property files (rc_value known.question).negated (chars (string_bytes (rc_value known.question).name))
    (option_map (λ text. chars (string_bytes text)) (rc_value known.question).value))
    (rc_value known.set)

-- the classes are those of a division, and the sets of properties are right
pub record AreRightClasses (files : List File) (classes : Classes) : Type 0 where
  pub divides : IsDivision (rc_value classes.division)
  pub known : All (IsKnown files (rc_value classes.division).bounds) (values classes.sets)

-- the classes are those whose first code point is in the ranges, or both are absent
abbrev pub AreSame : List ℕ → Option (List Range) → Option ClassBits → Type 0
AreSame bounds None None = Unit {0}
AreSame bounds None (Some classes) = ⊥
AreSame bounds (Some set) None = ⊥
AreSame bounds (Some set) (Some classes) = (c : ℕ) → IsFirstOfClass bounds c → HasMember bounds classes c ↔ Has set c

-- the two sets are the same
abbrev pub IsDivided : List ℕ → Divided → Type 0
IsDivided bounds divided = AreSame bounds (rc_value divided.set) (rc_value divided.classes)
