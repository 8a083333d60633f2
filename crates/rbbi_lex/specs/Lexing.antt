-- The tokens of a text, and its first fault.
use Rattle.std.specs.Prelude.{ℕ, ◌≡◌, List, [], ◌∷◌, length}
use Rattle.rbbi_lex.specs.declared.token.Token.{Token}
use Rattle.rbbi_lex.specs.declared.state.State.{State}
use Rattle.rbbi_lex.specs.Cases.{start_state, state_after}
use Rattle.rbbi_lex.specs.Spellings.{TokenAt}
use Rattle.rbbi_lex.specs.Faults.{Fault, FaultAt}
use Rattle.rbbi_lex.specs.Skips.{Skipped}

-- from one state and place to another, skipped pieces and these tokens in turn use up the text
abbrev pub UsesUp : List ℕ → State → ℕ → List Token → State → ℕ → Type 0
UsesUp x from i [] to j = (from ≡ to) × (i ≡ j)
UsesUp x from i (t ∷ ts) to j =
    (next : ℕ) × Skipped x from i t.place × TokenAt x from t.place next t.kind
    × UsesUp x (state_after from t.kind) next ts to j

-- the tokens of the text: skipped pieces and they in turn use it up
abbrev pub AreTokens : List ℕ → List Token → Type 0
AreTokens x ts =
    (to : State) × (j : ℕ) × UsesUp x start_state 0 ts to j × Skipped x to j (length x)

-- the first fault of the text: all before its place is used up by skipped pieces and tokens
abbrev pub IsLexFault : List ℕ → Fault → ℕ → Type 0
IsLexFault x fault place =
    (ts : List Token) × (to : State) × (j : ℕ) × UsesUp x start_state 0 ts to j × Skipped x to j place
    × FaultAt x to place fault
