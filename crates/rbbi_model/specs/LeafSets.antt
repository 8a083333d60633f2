-- Positions, which number the leaves over all rules, and the sets of positions by which a word's last code point is read.
use Rattle.std.specs.Prelude.{◌≡◌, ◌≢◌, ℕ, ◌+◌, ◌-◌, ◌<◌, true, ◌⊎◌, ◌↔◌, Some, List, [], ◌∷◌, ◌++◌, length, take, sum_by, flat_map, slice_get, slice_range}
use Rattle.std.specs.Prelude.{MatchOption, AllPairs}
use Rattle.std.specs.List.{AllByRecursion, AllZip}
use Rattle.std.specs.Option.{option_map_or}
use Rattle.rbbi_model.specs.Words.{IsWord}
use Rattle.rbbi_model.specs.Ranges.{Range, Has}
use Rattle.rbbi_model.specs.Spelling.{Tree, Leaf, Empty, Never, Then, Either, Repeat, Allows, joined}
use Rattle.rbbi_model.specs.Rules.{Rule, leaf_count, leaves_of}
use Rattle.rbbi_model.specs.Chains.{IsRule, EndsAt}
use Rattle.rbbi_model.specs.Boundaries.{LookAheadEndsAt}

-- the sets of a tree's leaves, from the left
abbrev pub sets_of : Tree → List (List Range)
sets_of (Leaf set) = set ∷ []
sets_of Empty = []
sets_of Never = []
sets_of (Then first rest) = sets_of first ++ sets_of rest
sets_of (Either first rest) = sets_of first ++ sets_of rest
sets_of (Repeat repetition part) = sets_of part

-- the sets of a rule's leaves, its front before its rest
abbrev pub sets_of_rule : Rule → List (List Range)
sets_of_rule rule = sets_of rule.front ++ option_map_or sets_of rule.rest []

-- the sets of the leaves of all rules; a position is a place in this list
abbrev pub all_sets : List Rule → List (List Range)
all_sets rules = flat_map sets_of_rule rules

-- the position of the first leaf of the rule with this number
abbrev pub first_position : List Rule → ℕ → ℕ
first_position rules number = sum_by leaves_of (take number rules)

-- The tree spells the positions, where each leaf spells its own and the first leaf has the one given.
abbrev pub SpellsPositions : Tree → ℕ → List ℕ → Type 0
SpellsPositions (Leaf set) first positions = positions ≡ first ∷ []
SpellsPositions Empty first positions = positions ≡ []
SpellsPositions Never first positions = ⊥
SpellsPositions (Then front rest) first positions =
    (u : List ℕ) × (v : List ℕ) × SpellsPositions front first u × SpellsPositions rest (first + leaf_count front) v × (positions ≡ u ++ v)
SpellsPositions (Either front rest) first positions =
    SpellsPositions front first positions ⊎ SpellsPositions rest (first + leaf_count front) positions
SpellsPositions (Repeat repetition part) first positions =
    (pieces : List (List ℕ)) × Allows repetition pieces × AllByRecursion (SpellsPositions part first) pieces × (positions ≡ joined pieces)

-- The rule spells the positions: its front does, or where there is a rest, the front and then the rest.
abbrev pub RuleSpellsPositions : Rule → ℕ → List ℕ → Type 0
RuleSpellsPositions rule first positions =
    MatchOption rule.rest (SpellsPositions rule.front first positions)
    (λ rest. (u : List ℕ) × (v : List ℕ) × SpellsPositions rule.front first u × SpellsPositions rest (first + leaf_count rule.front) v × (positions ≡ u ++ v))

-- the set at the position holds the code point
abbrev pub Reads : List Rule → ℕ → ℕ → Type 0
Reads rules position c = (set : List Range) × (slice_get (all_sets rules) position ≡ Some set) × Has set c

-- The rule begins to read the word: the first positions of some that it spells read its code points, the last of them by the
-- position.
pub record ReadsLast (rules : List Rule) (number : ℕ) (rule : Rule) (w : List ℕ) (position : ℕ) : Type 0 where
  pub positions : List ℕ
  pub spelled : RuleSpellsPositions rule (first_position rules number) positions
  pub reads : AllZip (Reads rules) (take (length w) positions) w
  pub some : w ≢ []
  pub last : slice_get positions (length w - 1) ≡ Some position

-- the rule with some number begins to read the word
pub record BeginsToRead (rules : List Rule) (w : List ℕ) (position : ℕ) : Type 0 where
  pub number : ℕ
  pub rule : Rule
  pub is_rule : IsRule rules number rule
  pub reads : ReadsLast rules number rule w position

-- Some rule ends at m, and one that may be chained into begins to read from the character before m on. Where m is the word's
-- length, that is one of its first positions that holds the last code point.
pub record IsChainedToRead (rules : List Rule) (w : List ℕ) (position : ℕ) : Type 0 where
  pub m : ℕ
  pub before : ℕ
  pub ends : EndsAt rules w 0 m before
  pub number : ℕ
  pub rule : Rule
  pub is_rule : IsRule rules number rule
  pub chained_into : rule.chained_into ≡ true
  pub reads : ReadsLast rules number rule (slice_range w (m - 1) (length w)) position

-- a look-ahead rule ends before the word does
pub record EndedBefore (rules : List Rule) (w : List ℕ) : Type 0 where
  pub e : ℕ
  pub number : ℕ
  pub before : e < length w
  pub ends : LookAheadEndsAt rules w 0 e number

-- The position is in the leaf set of the word: its last code point can be read there in a chain from its first, and no
-- look-ahead rule ended before.
abbrev pub InLeafSet : List Rule → List ℕ → ℕ → Type 0
InLeafSet rules w position =
    ¬ EndedBefore rules w × (BeginsToRead rules w position ⊎ IsChainedToRead rules w position)

-- the leaf sets of the words differ
abbrev pub HaveDistinctLeafSets : List Rule → List ℕ → List ℕ → Type 0
HaveDistinctLeafSets rules these those =
    ¬ ((position : ℕ) → InLeafSet rules these position ↔ InLeafSet rules those position)

-- there are at least so many distinct leaf sets that aren't empty
pub record HasLeafSets (rules : List Rule) (count : ℕ) : Type 0 where
  pub words : List (List ℕ)
  pub many : length words ≡ count
  pub are_words : AllByRecursion IsWord words
  pub not_empty : AllByRecursion (λ w. (position : ℕ) × InLeafSet rules w position) words
  pub apart : AllPairs (HaveDistinctLeafSets rules) words
