-- Automata of positions, as rows of bits: which positions come first, which may follow which, which can read what, and what
-- is marked where one of them reads the last code point (Glushkov 1961).
use Rattle.std.specs.Prelude.{◌≡◌, ℕ, ◌<◌, ◌≤◌, ◌↔◌, true, Some, List, [], ◌∷◌, ◌++◌, length}
use Rattle.std.specs.List.{Contains}
use Rattle.rbbi_model.specs.Words.{IsCodePoint}
use Rattle.rbbi_model.specs.Rules.{Rule, LooksAhead, look_aheads}
use Rattle.rbbi_model.specs.Chains.{IsRule}
use Rattle.rbbi_model.specs.Tables.{CategoryRange, category_of}
use Rattle.rbbi_model.specs.Marks.{look_ahead_number}
use Rattle.rbbi_model.specs.LeafSets.{first_position, SpellsPositions, Reads}
use Rattle.rbbi_positions.specs.FollowPositions.{IsSpelled}
use Rattle.rbbi_bits.specs.BitRows.{Holds}
use Rattle.rbbi_bits.specs.NumberedRows.{listed_row}
use Rattle.rbbi_dfa.specs.inner.PositionRows.{PositionMark, PositionRows}

-- the list marks the position so
abbrev pub Marked : List PositionMark → ℕ → ℕ → Type 0
Marked marks position mark = Contains marks (record { position = position; mark = mark })

-- the position begins, ends, or follows another in some list that the rule with this number spells
abbrev pub FirstOf : List Rule → ℕ → ℕ → Type 0
FirstOf rules number position = (others : List ℕ) × IsSpelled rules number (position ∷ others)

abbrev pub LastOf : List Rule → ℕ → ℕ → Type 0
LastOf rules number position = (others : List ℕ) × IsSpelled rules number (others ++ position ∷ [])

abbrev pub FollowsIn : List Rule → ℕ → ℕ → ℕ → Type 0
FollowsIn rules number position next = (before : List ℕ) × (after : List ℕ) × IsSpelled rules number (before ++ position ∷ next ∷ after)

-- the position ends some list that the front of the look-ahead rule with this number spells
pub record FrontLastOf (rules : List Rule) (number position : ℕ) : Type 0 where
  pub rule : Rule
  pub is_rule : IsRule rules number rule
  pub looks_ahead : LooksAhead rule
  pub others : List ℕ
  pub spelled : SpellsPositions rule.front (first_position rules number) (others ++ position ∷ [])

-- a rule that may be chained into, one that looks ahead, and one with the status number
pub record Chainable (rules : List Rule) (number : ℕ) : Type 0 where
  pub rule : Rule
  pub is_rule : IsRule rules number rule
  pub chained_into : rule.chained_into ≡ true

pub record LookAhead (rules : List Rule) (number : ℕ) : Type 0 where
  pub rule : Rule
  pub is_rule : IsRule rules number rule
  pub looks_ahead : LooksAhead rule

pub record Tagged (rules : List Rule) (number tag : ℕ) : Type 0 where
  pub rule : Rule
  pub is_rule : IsRule rules number rule
  pub tagged : rule.tag ≡ Some tag

-- The rows are those of the positions of the rules, where these ranges give the categories.
pub record IsOfRules (rules : List Rule) (ranges : List CategoryRange) (rows : PositionRows) : Type 0 where
  pub some_categories : 1 ≤ rows.categories
  pub few_categories : rows.categories ≤ 1000
  pub within : (c : ℕ) → category_of ranges c < rows.categories
  pub used : (category : ℕ) → 1 ≤ category → category < rows.categories → (c : ℕ) × IsCodePoint c × (category_of ranges c ≡ category)
  pub slashes : rows.slashes ≡ length (look_aheads rules)
  pub first : (position : ℕ) → Holds rows.first position ↔ ((number : ℕ) × FirstOf rules number position)
  pub chained : (position : ℕ) → Holds rows.chained position ↔ ((number : ℕ) × Chainable rules number × FirstOf rules number position)
  pub last : (position : ℕ) → Holds rows.last position ↔ ((number : ℕ) × LastOf rules number position)
  pub follow : (position next : ℕ) → Holds (listed_row rows.follow position) next ↔ ((number : ℕ) × FollowsIn rules number position next)
  pub reads : (position c : ℕ) → IsCodePoint c → Holds (listed_row rows.reads (category_of ranges c)) position ↔ Reads rules position c
  pub unread : (position : ℕ) → ¬ Holds (listed_row rows.reads 0) position
  pub completed : (position mark : ℕ) → Marked rows.completed position mark ↔
      ((number : ℕ) × LookAhead rules number × LastOf rules number position × (look_ahead_number rules number ≡ mark))
  pub fronts : (position mark : ℕ) → Marked rows.fronts position mark ↔ ((number : ℕ) × FrontLastOf rules number position ×
      (look_ahead_number rules number ≡ mark))
  pub tags : (position mark : ℕ) → Marked rows.tags position mark ↔ ((number : ℕ) × LastOf rules number position × Tagged rules number mark)
