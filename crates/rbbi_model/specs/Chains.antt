-- Where a rule ends, where a front ends, and the status numbers there. Each further match shares one character with
-- the one before it.
use Rattle.std.specs.Prelude.{◌≡◌, ℕ, ◌-◌, ◌≤◌, true, ◌⊎◌, ◌↔◌, Some, List, length, slice_get, slice_range}
use Rattle.rbbi_model.specs.Lists.{Member, IsRising}
use Rattle.rbbi_model.specs.Rules.{Rule, IsWordOf, IsFrontWordOf}

-- the rule with this number, from 0, in the order of the file
abbrev pub IsRule : List Rule → ℕ → Rule → Type 0
IsRule rules number rule = slice_get rules number ≡ Some rule

-- the characters from one place to another are such a word
pub record IsPiece (x : List ℕ) (s e : ℕ) (IsSuch : List ℕ → Type 0) : Type 0 where
  pub starts : s ≤ e
  pub ends : e ≤ length x
  pub word : IsSuch (slice_range x s e)

-- From s the rule with this number ends at e: a word of it lies there, or some rule ends at m, it may be chained into,
-- and a word of it lies from the character before m on.
pub data EndsAt (rules : List Rule) (x : List ℕ) (s : ℕ) : ℕ → ℕ → Type 0 where
  Word : (e number : ℕ) (rule : Rule) → IsRule rules number rule → IsPiece x s e (IsWordOf rule) → EndsAt rules x s e number
  Chained : (m before e number : ℕ) (rule : Rule) → EndsAt rules x s m before → IsRule rules number rule → rule.chained_into ≡ true →
      IsPiece x (m - 1) e (IsWordOf rule) → EndsAt rules x s e number

-- some rule ends at m from s, this one may be chained into, and a word of its front lies from the character before m on
pub record FrontIsChained (rules : List Rule) (x : List ℕ) (s q : ℕ) (rule : Rule) : Type 0 where
  pub m : ℕ
  pub before : ℕ
  pub ends : EndsAt rules x s m before
  pub chained_into : rule.chained_into ≡ true
  pub piece : IsPiece x (m - 1) q (IsFrontWordOf rule)

-- From s the front of the look-ahead rule with this number ends at q.
pub record FrontEndsAt (rules : List Rule) (x : List ℕ) (s q number : ℕ) : Type 0 where
  pub rule : Rule
  pub is_rule : IsRule rules number rule
  pub front : IsPiece x s q (IsFrontWordOf rule) ⊎ FrontIsChained rules x s q rule

-- a rule with this status number ends at e from s
pub record IsTagAt (rules : List Rule) (x : List ℕ) (s e tag : ℕ) : Type 0 where
  pub number : ℕ
  pub rule : Rule
  pub is_rule : IsRule rules number rule
  pub ends : EndsAt rules x s e number
  pub tagged : rule.tag ≡ Some tag

-- the status numbers of the rules that end at e from s, rising and without repeats, or 0 alone where there are none
pub record AreTags (rules : List Rule) (x : List ℕ) (s e : ℕ) (tags : List ℕ) : Type 0 where
  pub rising : IsRising tags
  pub exactly : (tag : ℕ) → Member tags tag ↔ (IsTagAt rules x s e tag ⊎ ((tag ≡ 0) × ((other : ℕ) → ¬ IsTagAt rules x s e other)))
