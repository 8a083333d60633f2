-- What an expression means: a rule tree whose leaves are set expressions, with variables replaced.
use Rattle.std.specs.Prelude.{◌≡◌, ℕ, ◌+◌, Bool, true, false, ◌&&◌, ◌||◌, List, ◌↔◌}
use Rattle.rbbi_model.specs.Words.{IsSurrogate}
use Rattle.rbbi_model.specs.Ranges.{Range, Has}
use Rattle.rbbi_model.specs.SetTrees.{SetTree, InSet}
use Rattle.rbbi_model.specs.Spelling as spelling
use Rattle.rbbi_model.specs.Spelling.{Repetition, Star, Plus, Quest}
use Rattle.rbbi_sets.specs.Rising.{AreRising}
use Rattle.rbbi_props.specs.Rows.{File}
use Rattle.rbbi_resolve.specs.SetValues.{HasProperty}

-- a rule tree as in the specification of spelling, but for its leaves
pub data Meaning : Type 0 where
  Leaf : (set : SetTree) → Meaning
  Empty : Meaning
  Never : Meaning
  Then : (first rest : Meaning) → Meaning
  Either : (first rest : Meaning) → Meaning
  Repeat : (repetition : Repetition) → (part : Meaning) → Meaning

-- how many leaves it has
abbrev pub leaves_in : Meaning → ℕ
leaves_in (Leaf set) = 1
leaves_in Empty = 0
leaves_in Never = 0
leaves_in (Then first rest) = leaves_in first + leaves_in rest
leaves_in (Either first rest) = leaves_in first + leaves_in rest
leaves_in (Repeat repetition part) = leaves_in part

-- whether a repetition allows none of its part
abbrev pub may_be_none : Repetition → Bool
may_be_none Star = true
may_be_none Plus = false
may_be_none Quest = true

-- whether it spells the empty word
abbrev pub spells_empty : Meaning → Bool
spells_empty (Leaf set) = false
spells_empty Empty = true
spells_empty Never = false
spells_empty (Then first rest) = spells_empty first && spells_empty rest
spells_empty (Either first rest) = spells_empty first || spells_empty rest
spells_empty (Repeat repetition part) = may_be_none repetition || spells_empty part

-- a leaf's set: the characters of the set expression, as ranges that rise and neither overlap nor touch
pub record IsLeafOf (files : List File) (tree : SetTree) (set : List Range) : Type 0 where
  pub rising : AreRising set
  pub members : (c : ℕ) → Has set c ↔ (InSet (HasProperty files) tree c × ¬ IsSurrogate c)

-- the tree is that of the meaning, each leaf with its set
abbrev pub Stands : List File → Meaning → spelling.Tree → Type 0
Stands files (Leaf set) tree = (ranges : List Range) × (tree ≡ spelling.Leaf ranges) × IsLeafOf files set ranges
Stands files Empty tree = tree ≡ spelling.Empty
Stands files Never tree = tree ≡ spelling.Never
Stands files (Then first rest) tree =
    (a : spelling.Tree) × (b : spelling.Tree) × (tree ≡ spelling.Then a b) × Stands files first a × Stands files rest b
Stands files (Either first rest) tree =
    (a : spelling.Tree) × (b : spelling.Tree) × (tree ≡ spelling.Either a b) × Stands files first a × Stands files rest b
Stands files (Repeat repetition part) tree = (a : spelling.Tree) × (tree ≡ spelling.Repeat repetition a) × Stands files part a
