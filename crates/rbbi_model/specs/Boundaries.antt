-- The next boundary from a place, and the boundaries of a text.
use Rattle.std.specs.Prelude.{◌≡◌, ℕ, ◌+◌, ◌<◌, ◌≤◌, ◌⊎◌, List, [], ◌∷◌, length}
use Rattle.rbbi_model.specs.Rules.{Rule, LooksAhead}
use Rattle.rbbi_model.specs.Chains.{IsRule, EndsAt, FrontEndsAt, AreTags}

-- a place between characters, and its status numbers
pub record Boundary : Type 0 where
  pub at : ℕ
  pub statuses : List ℕ

-- a look-ahead rule with this number ends at e from s
pub record LookAheadEndsAt (rules : List Rule) (x : List ℕ) (s e number : ℕ) : Type 0 where
  pub rule : Rule
  pub is_rule : IsRule rules number rule
  pub looks_ahead : LooksAhead rule
  pub ends : EndsAt rules x s e number

-- A look-ahead rule ends from s. At the least place e where one does, of the first such rule there, the boundary is the
-- greatest end of the front before e.
pub record IsLookAheadCut (rules : List Rule) (x : List ℕ) (s : ℕ) (boundary : Boundary) : Type 0 where
  pub e : ℕ
  pub number : ℕ
  pub ends : LookAheadEndsAt rules x s e number
  pub least : (e' number' : ℕ) → LookAheadEndsAt rules x s e' number' → e ≤ e'
  pub first : (number' : ℕ) → LookAheadEndsAt rules x s e number' → number ≤ number'
  pub before : boundary.at < e
  pub front : FrontEndsAt rules x s boundary.at number
  pub greatest : (q : ℕ) → q < e → FrontEndsAt rules x s q number → q ≤ boundary.at
  pub statuses : AreTags rules x s e boundary.statuses

-- No look-ahead rule ends from s, and the boundary is the greatest end of a rule.
pub record IsLongestMatch (rules : List Rule) (x : List ℕ) (s : ℕ) (boundary : Boundary) : Type 0 where
  pub no_look_ahead : (e number : ℕ) → ¬ LookAheadEndsAt rules x s e number
  pub ends : (number : ℕ) × EndsAt rules x s boundary.at number
  pub greatest : (e number : ℕ) → EndsAt rules x s e number → e ≤ boundary.at
  pub statuses : AreTags rules x s boundary.at boundary.statuses

-- No rule ends from s, and the boundary comes after one character.
pub record IsSingleCharacter (rules : List Rule) (x : List ℕ) (s : ℕ) (boundary : Boundary) : Type 0 where
  pub no_end : (e number : ℕ) → ¬ EndsAt rules x s e number
  pub at : boundary.at ≡ s + 1
  pub statuses : boundary.statuses ≡ 0 ∷ []

-- the next boundary from s
abbrev pub IsNext : List Rule → List ℕ → ℕ → Boundary → Type 0
IsNext rules x s boundary =
    IsLookAheadCut rules x s boundary ⊎ (IsLongestMatch rules x s boundary ⊎ IsSingleCharacter rules x s boundary)

-- the boundaries that follow one, up to the text's end
abbrev pub Follow : List Rule → List ℕ → Boundary → List Boundary → Type 0
Follow rules x last [] = last.at ≡ length x
Follow rules x last (boundary ∷ boundaries) =
    (last.at < length x) × IsNext rules x last.at boundary × Follow rules x boundary boundaries

-- the boundary before the first character
abbrev pub start : Boundary
start = record { at = 0; statuses = 0 ∷ [] }

-- the boundaries of the text: they begin with its start, the next one follows each, and the last is its end
abbrev pub AreBoundaries : List Rule → List ℕ → List Boundary → Type 0
AreBoundaries rules x [] = ⊥
AreBoundaries rules x (boundary ∷ boundaries) = (boundary ≡ start) × Follow rules x boundary boundaries
