-- The cases of the tables of tokens, and the first that fits.
use Prim.Native.Char.{code}
use Rattle.std.specs.Prelude.{ℕ, Bool, true, ◌||◌, ◌&&◌, ◌==◌, if◌then◌else◌, ◌+◌, ◌-◌, List, [], ◌∷◌, Option, None, Some, is_some}
use Rattle.std.specs.List.{find}
use Rattle.rbbi_lex.specs.declared.token.TokenKind.{TokenKind}
use Rattle.rbbi_lex.specs.declared.token.TokenKind.TheVariants.{Semi, Equals, Bar, Slash, Caret, Star, Plus, Quest, Dot, ParenOpen, ParenClose, SetOpen}
use Rattle.rbbi_lex.specs.declared.token.TokenKind.TheVariants.{SetClose, Hyphen, Amp}
use Rattle.rbbi_lex.specs.declared.state.State.{State}
use Rattle.rbbi_lex.specs.declared.case.Case.{Case}
use Rattle.rbbi_lex.specs.declared.case.Case.TheVariants.{Sign, SetSign, BracketedProperty, SetStart, Variable, ControlName, StatusNumber, QuotePair, Quotation}
use Rattle.rbbi_lex.specs.declared.case.Case.TheVariants.{BracedProperty, Escape, Brace, BareCharacter, SetCharacter, OtherCharacter}
use Rattle.rbbi_lex.specs.Characters.{is_bare, is_sign}

-- where no token has been read: outside of sets
abbrev pub start_state : State
start_state = record { depth = 0 }

-- after one more token, of this kind
abbrev pub state_after : State → TokenKind → State
state_after state SetOpen = record { depth = state.depth + 1 }
state_after state SetClose = record { depth = state.depth - 1 }
state_after state _ = state

-- outside of sets the character is a token of this kind by itself
unfoldable pub outer_sign : ℕ → Option TokenKind
outer_sign c =
    if c == code ";" then Some Semi else
    (if c == code "=" then Some Equals else
    (if c == code "|" then Some Bar else
    (if c == code "/" then Some Slash else
    (if c == code "^" then Some Caret else
    (if c == code "*" then Some Star else
    (if c == code "+" then Some Plus else
    (if c == code "?" then Some Quest else
    (if c == code "." then Some Dot else
    (if c == code "(" then Some ParenOpen else
    (if c == code ")" then Some ParenClose else None))))))))))

-- inside of sets the character is a token of this kind by itself
unfoldable pub inner_sign : ℕ → Option TokenKind
inner_sign c =
    if c == code "]" then Some SetClose else
    (if c == code "^" then Some Caret else
    (if c == code "-" then Some Hyphen else
    (if c == code "&" then Some Amp else None)))

-- the case fits where this character stands, with these two after it
abbrev pub fits : ℕ → Option ℕ → Option ℕ → Case → Bool
fits c next third Sign = is_some (outer_sign c)
fits c next third SetSign = is_some (inner_sign c)
fits c next third BracketedProperty = c == code "[" && is_sign next (code ":")
fits c next third SetStart = c == code "["
fits c next third Variable = c == code "$"
fits c next third ControlName = c == code "!" && is_sign next (code "!")
fits c next third StatusNumber = c == code "{"
fits c next third QuotePair = c == code "'" && is_sign next (code "'")
fits c next third Quotation = c == code "'"
fits c next third BracedProperty = c == code "\\" && (is_sign next (code "p") || is_sign next (code "P")) && is_sign third (code "{")
fits c next third Escape = c == code "\\"
fits c next third Brace = c == code "{" || c == code "}"
fits c next third BareCharacter = is_bare c
fits c next third SetCharacter = true
fits c next third OtherCharacter = true

-- the cases outside of sets, in the order in which they are tried
abbrev pub outer_cases : List Case
outer_cases =
    Sign ∷ BracketedProperty ∷ SetStart ∷ Variable ∷ ControlName ∷ StatusNumber ∷ QuotePair ∷ Quotation
    ∷ BracedProperty ∷ Escape ∷ BareCharacter ∷ OtherCharacter ∷ []

-- the cases inside of sets
abbrev pub inner_cases : List Case
inner_cases =
    SetSign ∷ BracketedProperty ∷ SetStart ∷ Variable ∷ Brace ∷ BracedProperty ∷ Escape ∷ SetCharacter ∷ []

-- the first case that fits
abbrev pub first_case : State → ℕ → Option ℕ → Option ℕ → Option Case
first_case state c next third =
    if state.depth == 0 then find (fits c next third) outer_cases else find (fits c next third) inner_cases
