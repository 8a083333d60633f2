-- What stands at a place of a text, and the case of the table that decides there.
use Rattle.std.specs.Prelude.{ℕ, ◌≡◌, ◌+◌, Bool, List, slice_get, Some}
use Rattle.rbbi_lex.specs.declared.state.State.{State}
use Rattle.rbbi_lex.specs.declared.case.Case.{Case}
use Rattle.rbbi_lex.specs.Characters.{is_sign}
use Rattle.rbbi_lex.specs.Cases.{first_case}

-- this character stands at the place
abbrev pub CharacterAt : List ℕ → ℕ → ℕ → Type 0
CharacterAt x i c = slice_get x i ≡ Some c

-- whether this character stands at the place
abbrev pub is_at : List ℕ → ℕ → ℕ → Bool
is_at x i sign = is_sign (slice_get x i) sign

-- the case is the first that fits at the place
abbrev pub CaseAt : List ℕ → State → ℕ → Case → Type 0
CaseAt x state i case =
    (c : ℕ) × CharacterAt x i c
    × (first_case state c (slice_get x (i + 1)) (slice_get x (i + 2)) ≡ Some case)
