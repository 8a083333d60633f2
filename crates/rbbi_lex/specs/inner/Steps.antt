-- One step of the lexer.
use Rattle.std.specs.Prelude.{ℕ, ◌≡◌, List, length, Option, None, Some, Result, Ok, Err}
use Rattle.rbbi_lex.specs.declared.token.Token.{Token}
use Rattle.rbbi_lex.specs.declared.state.State.{State}
use Rattle.rbbi_lex.specs.declared.case.Case.{Case}
use Rattle.rbbi_lex.specs.declared.spelled.Spelled.{Spelled}
use Rattle.rbbi_lex.specs.declared.escape.Escaped.{Escaped}
use Rattle.rbbi_lex.specs.declared.error.LexErr.{LexErr}
use Rattle.rbbi_lex.specs.Cases.{state_after}
use Rattle.rbbi_lex.specs.Spellings.{SpellsCase, TokenAt}
use Rattle.rbbi_lex.specs.Faults.{SpellsNone, FaultAt}
use Rattle.rbbi_lex.specs.Errors.{Reports}
use Rattle.rbbi_lex.specs.Skips.{Skipped, Piece}

-- what the case spells from the place on, or nothing where it spells no token
abbrev pub IsSpelling : List ℕ → Case → ℕ → Option Spelled → Type 0
IsSpelling x case i None = SpellsNone x case i
IsSpelling x case i (Some spelled) = SpellsCase x case i spelled.end spelled.kind

-- a character and the place after it that are so related, or nothing where there are none
abbrev pub IsRestBy : (ℕ → ℕ → Type 0) → Option Escaped → Type 0
IsRestBy P None = (j c : ℕ) → ¬ P j c
IsRestBy P (Some escaped) = P escaped.end escaped.character

-- where the piece that begins at the place ends, or nothing where none does
abbrev pub IsPieceEnd : List ℕ → State → ℕ → Option ℕ → Type 0
IsPieceEnd x state i None = (j : ℕ) → ¬ Piece x state i j
IsPieceEnd x state i (Some j) = Piece x state i j

-- pieces are skipped, and then stands the fault that the error reports
abbrev pub StopsAt : List ℕ → State → ℕ → LexErr → Type 0
StopsAt x from i e = Reports (λ fault place. Skipped x from i place × FaultAt x from place fault) e

-- from one state and place to another a token is read, or the end or a fault is reached
abbrev pub ReadsNext : List ℕ → State → ℕ → Result (Option Token) LexErr → State → ℕ → Type 0
ReadsNext x from i (Ok (Some t)) to j =
    Skipped x from i t.place × TokenAt x from t.place j t.kind × (to ≡ state_after from t.kind)
ReadsNext x from i (Ok None) to j = Skipped x from i (length x)
ReadsNext x from i (Err e) to j = StopsAt x from i e
