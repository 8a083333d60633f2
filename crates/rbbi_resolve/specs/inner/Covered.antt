-- Expressions whose sets are unions of classes.
use Rattle.std.specs.Prelude.{◌≡◌, ℕ, ◌≤◌, ◌↔◌, Bool, IfSome, Option, Some, None, List, [], ◌∷◌, ◌++◌, length, slice_get}
use Rattle.std.specs.List.{All, Contains, AllByRecursion}
use Rattle.std.specs.HashMap.{values}
use Rattle.std.specs.Rc.{rc_value}
use Rattle.rbbi_bits.specs.BitRows.{Holds}
use Rattle.rbbi_model.specs.Ranges.{Range, Has}
use Rattle.rbbi_model.specs.SetTrees as model
use Rattle.rbbi_sets.specs.Rising.{AreRising}
use Rattle.rbbi_props.specs.Rows.{File}
use Rattle.rbbi_tree.specs.Trees.{SetSyntax, PartTree, ExprTree, StatementTree, nothing, control, assign, rule, character, quoted, property, set}
use Rattle.rbbi_resolve.specs.declared.collection.Collection.{Collection}
use Rattle.rbbi_resolve.specs.declared.properties.Answer.{Answer}
use Rattle.rbbi_resolve.specs.inner.SetValues.{IsValue}
use Rattle.rbbi_resolve.specs.SetValues.{HasProperty, value_of_property, value_of_set, value_of_part}
use Rattle.rbbi_resolve.specs.inner.Questions.{IsRightAnswer}
use Rattle.rbbi_resolve.specs.Parts.{Part, Outside, parts_of_expr}

-- The set has code points alone, and has a code point exactly where it has the one that stands for it.
pub record Respects (files : List File) (stand : ℕ → ℕ) (tree : model.SetTree) : Type 0 where
  pub low : (c : ℕ) → model.InSet (HasProperty files) tree c → c ≤ 0x10FFFF
  pub same : (c : ℕ) → c ≤ 0x10FFFF → model.InSet (HasProperty files) tree c ↔ model.InSet (HasProperty files) tree (stand c)

-- so does what each name stands for
pub record NamesRespect (files : List File) (stand : ℕ → ℕ) (named : List ℕ → Option model.SetTree) : Type 0 where
  pub each : (name : List ℕ) → IfSome (named name) (Respects files stand)

-- so does the value of a set, if that of each name does
abbrev pub SetRespects : List File → (ℕ → ℕ) → SetSyntax → Type 0
SetRespects files stand s =
    (named : List ℕ → Option model.SetTree) → NamesRespect files stand named → IfSome (value_of_set files named s) (Respects files stand)

-- A character, a set or a property that stands as an atom is covered if its value is a union of classes. So is a quoted sequence whose
-- characters are.
abbrev pub IsCovered : List File → (ℕ → ℕ) → Part → Type 0
IsCovered files stand (Outside place (character c bare)) = Respects files stand (model.Character c)
IsCovered files stand (Outside place (quoted word)) = AllByRecursion (λ c. Respects files stand (model.Character c)) word
IsCovered files stand (Outside place (property negated word value)) = IfSome (value_of_property files negated word value) (Respects files stand)
IsCovered files stand (Outside place (set s)) = SetRespects files stand s
IsCovered files stand _ = Unit {0}

-- each of the parts is covered
pub record AreCovered (files : List File) (stand : ℕ → ℕ) (parts : List Part) : Type 0 where
  pub each : AllByRecursion (IsCovered files stand) parts

-- the parts of an expression, if there is one
abbrev pub parts_of_rest : Option ExprTree → List Part
parts_of_rest None = []
parts_of_rest (Some rest) = parts_of_expr rest

-- the parts of the expressions of a statement
abbrev pub parts_of_statement : StatementTree → List Part
parts_of_statement nothing = []
parts_of_statement (control name place) = []
parts_of_statement (assign name place expr) = parts_of_expr expr
parts_of_statement (rule place no_chain_in front slash rest tag) = parts_of_expr front ++ parts_of_rest rest

-- the parts of each statement are covered
pub record CoversAll (files : List File) (stand : ℕ → ℕ) (statements : List StatementTree) : Type 0 where
  pub each : (number : ℕ) (statement : StatementTree) → slice_get statements number ≡ Some statement →
      AreCovered files stand (parts_of_statement statement)

-- a code point is in each of these sets exactly where the one that stands for it is, which is a code point
pub record AreRespected (stand : ℕ → ℕ) (bases : List (List Range)) : Type 0 where
  pub low : (c : ℕ) → c ≤ 0x10FFFF → stand c ≤ 0x10FFFF
  pub each : (base : List Range) → Contains bases base → (c : ℕ) → c ≤ 0x10FFFF → Has base c ↔ Has base (stand c)

-- one of these has the code points of the ranges
pub record HasSame (bases : List (List Range)) (ranges : List Range) : Type 0 where
  pub base : List Range
  pub own : Contains bases base
  pub rising : AreRising base
  pub same : (c : ℕ) → Has base c ↔ Has ranges c

-- the set of the property, if it has one, is among these
pub record HasBase (files : List File) (bases : List (List Range)) (negated : Bool) (word : List ℕ) (word_of_value : Option (List ℕ)) : Type 0 where
  pub set : Option (List Range)
  pub value_is : IsValue files (value_of_property files negated word word_of_value) set
  pub own : IfSome set (Contains bases)

-- the answer is right, and its set is among these
pub record IsBasedAnswer (files : List File) (bases : List (List Range)) (answer : Answer) : Type 0 where
  pub right : IsRightAnswer files answer
  pub own : IfSome (rc_value answer.set) (Contains bases)

-- one of these has this code point alone
abbrev pub HasSingle : List (List Range) → ℕ → Type 0
HasSingle bases c = HasSame bases (record { low = c; high = c } ∷ [])

-- for each character of the row, which has room for all code points, one of these has it alone
pub record AreSingled (bases : List (List Range)) (row : List ℕ) : Type 0 where
  pub long : length row ≡ 17408
  pub each : (c : ℕ) → Holds row c → HasSingle bases c

-- what was found for properties is right, and was collected, and so were the sets of characters
pub record IsCollection (files : List File) (collection : Collection) : Type 0 where
  pub answers : All (IsBasedAnswer files collection.bases.items) (values collection.answers)
  pub singled : AreSingled collection.bases.items collection.characters.items

-- sets were collected, by which parts are covered
pub record Collects (files : List File) (before after : Collection) (parts : List Part) : Type 0 where
  pub keeps : (base : List Range) → Contains before.bases.items base → Contains after.bases.items base
  pub covers : (stand : ℕ → ℕ) → AreRespected stand after.bases.items → AreCovered files stand parts
  pub kept : IsCollection files after

-- sets were collected, of which a set is made
pub record CollectsSet (files : List File) (before after : Collection) (s : SetSyntax) : Type 0 where
  pub keeps : (base : List Range) → Contains before.bases.items base → Contains after.bases.items base
  pub covers : (stand : ℕ → ℕ) → AreRespected stand after.bases.items → SetRespects files stand s
  pub kept : IsCollection files after

-- sets were collected, by which a part goes on with what stands to its left
pub record CollectsPart (files : List File) (before after : Collection) (p : PartTree) : Type 0 where
  pub keeps : (base : List Range) → Contains before.bases.items base → Contains after.bases.items base
  pub covers : (stand : ℕ → ℕ) → AreRespected stand after.bases.items → (named : List ℕ → Option model.SetTree) → NamesRespect files stand named →
      (left : Option model.SetTree) → IfSome left (Respects files stand) → IfSome (value_of_part files named left p) (Respects files stand)
  pub kept : IsCollection files after
