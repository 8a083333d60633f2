-- Walks over positions, each of which follows the one before it, and the laws by which they are what the rules spell.
use Rattle.std.specs.Prelude.{◌≡◌, ◌≢◌, ℕ, ◌↔◌, List, [], ◌∷◌, ◌++◌}
use Rattle.rbbi_model.specs.Rules.{Rule}
use Rattle.rbbi_positions.specs.FollowPositions.{IsSpelled, IsFrontSpelled, IsFirst, IsLast, IsFrontLast, Follows, IsOfRule}

-- each position of the list follows the one before it
abbrev pub EachFollows : List Rule → List ℕ → Type 0
EachFollows rules [] = Unit {0}
EachFollows rules (position ∷ []) = Unit {0}
EachFollows rules (position ∷ next ∷ positions) = Follows rules position next × EachFollows rules (next ∷ positions)

-- a walk from a first position: each further one follows the one before it
abbrev pub IsWalk : List Rule → List ℕ → Type 0
IsWalk rules [] = ⊥
IsWalk rules (position ∷ positions) = IsFirst rules position × EachFollows rules (position ∷ positions)

-- some rule spells a list that begins with these positions
pub record IsPrefix (rules : List Rule) (positions : List ℕ) : Type 0 where
  pub number : ℕ
  pub others : List ℕ
  pub spelled : IsSpelled rules number (positions ++ others)

-- A position is of one rule alone, the one that spells lists with it.
abbrev pub SpelledAreOfTheRule : Type 0
SpelledAreOfTheRule =
    (rules : List Rule) (number position : ℕ) (before after : List ℕ) → IsSpelled rules number (before ++ position ∷ after) → IsOfRule rules position number

-- Where two lists that are spelled have a position in common, the one up to it and then the other from it on is spelled too.
abbrev pub SpelledAreExchanged : Type 0
SpelledAreExchanged =
    (rules : List Rule) (this that position : ℕ) (before after sooner later : List ℕ) → IsSpelled rules this (before ++ position ∷ after) →
    IsSpelled rules that (sooner ++ position ∷ later) → (this ≡ that) × IsSpelled rules this (before ++ position ∷ later)

-- Where a list that is spelled and one that a front spells have a position in common, the one up to it and then the other from it on is spelled by the front.
abbrev pub FrontsAreExchanged : Type 0
FrontsAreExchanged =
    (rules : List Rule) (this that position : ℕ) (before after sooner later : List ℕ) → IsSpelled rules this (before ++ position ∷ after) →
    IsFrontSpelled rules that (sooner ++ position ∷ later) → (this ≡ that) × IsFrontSpelled rules this (before ++ position ∷ later)

-- the beginnings of the lists that are spelled, the empty one apart, are the walks from a first position
abbrev pub PrefixesAreWalks : Type 0
PrefixesAreWalks = (rules : List Rule) (positions : List ℕ) → IsWalk rules positions ↔ ((positions ≢ []) × IsPrefix rules positions)

-- what the rules spell, the empty list apart, is the walks from a first position to a last one
abbrev pub SpelledAreWalks : Type 0
SpelledAreWalks =
    (rules : List Rule) (others : List ℕ) (position : ℕ) →
    ((number : ℕ) × IsSpelled rules number (others ++ position ∷ [])) ↔ (IsWalk rules (others ++ position ∷ []) × IsLast rules position)

-- a walk from a first position to a last one of a front is what a front spells
abbrev pub FrontWalksAreSpelled : Type 0
FrontWalksAreSpelled =
    (rules : List Rule) (others : List ℕ) (position : ℕ) → IsWalk rules (others ++ position ∷ []) → IsFrontLast rules position →
    (number : ℕ) × IsFrontSpelled rules number (others ++ position ∷ [])
