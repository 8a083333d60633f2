-- Rule trees, and the words that a tree spells.
use Rattle.std.specs.Prelude.{◌≡◌, ◌≢◌, ℕ, ◌≤◌, ◌⊎◌, List, [], ◌∷◌, ◌++◌, length}
use Rattle.std.specs.List.{AllByRecursion}
use Rattle.rbbi_model.specs.Ranges.{Range, Has}

-- how often what stands before it is repeated
pub data Repetition : Type 0 where
  Star : Repetition
  Plus : Repetition
  Quest : Repetition

-- A rule with its variables replaced. A sequence or a choice of several parts is nested to the right.
pub data Tree : Type 0 where
  Leaf : (set : List Range) → Tree
  Empty : Tree
  Never : Tree
  Then : (first rest : Tree) → Tree
  Either : (first rest : Tree) → Tree
  Repeat : (repetition : Repetition) → (part : Tree) → Tree

-- so many consecutive spellings make one of the repetition: any number, one or more, none or one
abbrev pub Allows : Repetition → List (List ℕ) → Type 0
Allows Star pieces = Unit {0}
Allows Plus pieces = pieces ≢ []
Allows Quest pieces = length pieces ≤ 1

-- the words, one after another
abbrev pub joined : List (List ℕ) → List ℕ
joined [] = []
joined (piece ∷ pieces) = piece ++ joined pieces

-- The tree spells the word. A leaf spells each code point of its set.
abbrev pub Spells : Tree → List ℕ → Type 0
Spells (Leaf set) w = (c : ℕ) × Has set c × (w ≡ c ∷ [])
Spells Empty w = w ≡ []
Spells Never w = ⊥
Spells (Then first rest) w = (u : List ℕ) × (v : List ℕ) × Spells first u × Spells rest v × (w ≡ u ++ v)
Spells (Either first rest) w = Spells first w ⊎ Spells rest w
Spells (Repeat repetition part) w =
    (pieces : List (List ℕ)) × Allows repetition pieces × AllByRecursion (Spells part) pieces × (w ≡ joined pieces)

-- the parts in order
abbrev pub sequence_of : List Tree → Tree
sequence_of [] = Empty
sequence_of (part ∷ []) = part
sequence_of (part ∷ next ∷ parts) = Then part (sequence_of (next ∷ parts))

-- one of the parts
abbrev pub choice_of : List Tree → Tree
choice_of [] = Never
choice_of (part ∷ []) = part
choice_of (part ∷ next ∷ parts) = Either part (choice_of (next ∷ parts))
