-- The leaves of an expression that don't come from its variables, and the rows that the code keeps of them.
use Rattle.std.specs.Prelude.{◌≡◌, ℕ, Option, Some, None, IfSome, List, [], ◌∷◌, ◌++◌, length, map}
use Rattle.std.specs.List.{AllZip}
use Rattle.rbbi_model.specs.Words.{IsCharacter}
use Rattle.rbbi_model.specs.SetTrees as model
use Rattle.rbbi_props.specs.Rows.{File}
use Rattle.rbbi_tree.specs.Trees.{ExprTree, SeqTree, ItemTree, AtomTree, no_alternatives, alternative, no_items, item, placed, character, quoted, any, name}
use Rattle.rbbi_tree.specs.Trees.{property, set, group, StatementTree, nothing, control, assign, rule}
use Rattle.rbbi_classes.specs.Classes.{ClassBits}
use Rattle.rbbi_classes.specs.CharacterSets.{characters_of}
use Rattle.rbbi_classes.specs.Divisions.{ClassDivision, stand_in}
use Rattle.rbbi_resolve.specs.SetValues.{value_of_set, value_of_property}
use Rattle.rbbi_resolve.specs.Contexts.{Context, value_of_name}
use Rattle.rbbi_resolve.specs.RuleLists.{IsLeafSet}
use Rattle.rbbi_resolve.specs.inner.ClassValues.{IsClassValue}
use Rattle.rbbi_resolve.specs.inner.Covered.{Respects}

abbrev mutual
  -- the values of the leaves, from the left
  pub leaves_of_expr : Context → ExprTree → List (Option model.SetTree)
  leaves_of_expr context no_alternatives = []
  leaves_of_expr context (alternative first more) = leaves_of_seq context first ++ leaves_of_expr context more

  pub leaves_of_seq : Context → SeqTree → List (Option model.SetTree)
  leaves_of_seq context no_items = []
  leaves_of_seq context (item first more) = leaves_of_item context first ++ leaves_of_seq context more

  pub leaves_of_item : Context → ItemTree → List (Option model.SetTree)
  leaves_of_item context (placed place atom quant) = leaves_of_atom context atom

  pub leaves_of_atom : Context → AtomTree → List (Option model.SetTree)
  leaves_of_atom context (character c bare) = Some (model.Character c) ∷ []
  leaves_of_atom context (quoted word) = map (λ c. Some (model.Character c)) word
  leaves_of_atom context any = Some (model.Others model.Nothing) ∷ []
  leaves_of_atom context (name word) = []
  leaves_of_atom context (property negated word value) = value_of_property context.files negated word value ∷ []
  leaves_of_atom context (set s) = value_of_set context.files (value_of_name context) s ∷ []
  leaves_of_atom context (group inner) = leaves_of_expr context inner

abbrev pub leaves_of_rest : Context → Option ExprTree → List (Option model.SetTree)
leaves_of_rest context None = []
leaves_of_rest context (Some rest) = leaves_of_expr context rest

abbrev pub leaves_of_statement : Context → StatementTree → List (Option model.SetTree)
leaves_of_statement context nothing = []
leaves_of_statement context (control word place) = []
leaves_of_statement context (assign word place expr) = leaves_of_expr context expr
leaves_of_statement context (rule place no_chain_in front slash rest tag) = leaves_of_expr context front ++ leaves_of_rest context rest

-- a set of one character is that of a character
abbrev pub IsLetter : model.SetTree → Type 0
IsLetter (model.Character c) = IsCharacter c
IsLetter _ = Unit {0}

-- the row is the value of the leaf, if it has one, which has all or nothing of each class
pub record IsLeafRow (files : List File) (division : ClassDivision) (value : Option model.SetTree) (row : Option ClassBits) : Type 0 where
  pub own : IsClassValue files division.bounds value row
  pub respects : IfSome value (Respects files (stand_in division))
  pub letter : IfSome value IsLetter

-- the rows of these leaves were added
pub record AddsLeafRows (files : List File) (division : ClassDivision) (values : List (Option model.SetTree))
    (before after : List (Option ClassBits)) : Type 0 where
  pub more : List (Option ClassBits)
  pub is : after ≡ before ++ more
  pub each : AllZip (IsLeafRow files division) values more

-- the rows from this number on are those of these leaves
pub record StandAt (IsRow : Option model.SetTree → Option ClassBits → Type 0) (rows : List (Option ClassBits)) (number : ℕ)
    (values : List (Option model.SetTree)) : Type 0 where
  pub before : List (Option ClassBits)
  pub own : List (Option ClassBits)
  pub after : List (Option ClassBits)
  pub is : rows ≡ before ++ (own ++ after)
  pub at : length before ≡ number
  pub each : AllZip IsRow values own

-- there is a row, and its set is one that a leaf may have
abbrev pub IsLawfulRow : ClassDivision → Option (Option ClassBits) → Type 0
IsLawfulRow division None = ⊥
IsLawfulRow division (Some None) = ⊥
IsLawfulRow division (Some (Some row)) = IsLeafSet (characters_of division row)
