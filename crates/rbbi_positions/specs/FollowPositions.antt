-- Where a position stands in the lists of positions that the rules spell: first, last, last of the front, or after another.
use Rattle.std.specs.Prelude.{ℕ, ◌+◌, ◌<◌, ◌≤◌, List, [], ◌∷◌, ◌++◌}
use Rattle.rbbi_model.specs.Rules.{Rule, leaves_of}
use Rattle.rbbi_model.specs.Chains.{IsRule}
use Rattle.rbbi_model.specs.LeafSets.{SpellsPositions, RuleSpellsPositions, first_position}

-- the rule with this number spells the positions
pub record IsSpelled (rules : List Rule) (number : ℕ) (positions : List ℕ) : Type 0 where
  pub rule : Rule
  pub is_rule : IsRule rules number rule
  pub spelled : RuleSpellsPositions rule (first_position rules number) positions

-- the front of the rule with this number spells the positions
pub record IsFrontSpelled (rules : List Rule) (number : ℕ) (positions : List ℕ) : Type 0 where
  pub rule : Rule
  pub is_rule : IsRule rules number rule
  pub spelled : SpellsPositions rule.front (first_position rules number) positions

-- some rule spells a list that begins with the position
pub record IsFirst (rules : List Rule) (position : ℕ) : Type 0 where
  pub number : ℕ
  pub others : List ℕ
  pub spelled : IsSpelled rules number (position ∷ others)

-- some rule spells a list that ends with the position
pub record IsLast (rules : List Rule) (position : ℕ) : Type 0 where
  pub number : ℕ
  pub others : List ℕ
  pub spelled : IsSpelled rules number (others ++ position ∷ [])

-- the front of some rule spells a list that ends with the position; the front of a plain rule is all of it
pub record IsFrontLast (rules : List Rule) (position : ℕ) : Type 0 where
  pub number : ℕ
  pub others : List ℕ
  pub spelled : IsFrontSpelled rules number (others ++ position ∷ [])

-- some rule spells a list in which the next position stands right after this one
pub record Follows (rules : List Rule) (position next : ℕ) : Type 0 where
  pub number : ℕ
  pub before : List ℕ
  pub after : List ℕ
  pub spelled : IsSpelled rules number (before ++ position ∷ next ∷ after)

-- the position is that of a leaf of the rule with this number
pub record IsOfRule (rules : List Rule) (position number : ℕ) : Type 0 where
  pub rule : Rule
  pub is_rule : IsRule rules number rule
  pub from : first_position rules number ≤ position
  pub to : position < first_position rules number + leaves_of rule
