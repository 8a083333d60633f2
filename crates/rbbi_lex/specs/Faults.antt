-- The fault at a place where no token stands.
use Rattle.std.specs.Prelude.{ℕ, ◌≡◌, List}
use Rattle.rbbi_lex.specs.declared.token.TokenKind.{TokenKind}
use Rattle.rbbi_lex.specs.declared.state.State.{State}
use Rattle.rbbi_lex.specs.declared.case.Case.{Case}
use Rattle.rbbi_lex.specs.declared.case.Case.TheVariants.{BracketedProperty, Variable, ControlName, StatusNumber, Quotation, BracedProperty, Escape}
use Rattle.rbbi_lex.specs.Points.{CaseAt}
use Rattle.rbbi_lex.specs.Spellings.{SpellsCase}

-- why no token stands at a place
pub data Fault : Type 0 where
  BadChar : Fault
  BadEscape : Fault
  OpenQuote : Fault
  OpenProperty : Fault
  BadTag : Fault
  BadName : Fault

-- what is wrong where the case fits and spells no token
abbrev pub fault_of : Case → Fault
fault_of BracketedProperty = OpenProperty
fault_of BracedProperty = OpenProperty
fault_of Variable = BadName
fault_of ControlName = BadName
fault_of StatusNumber = BadTag
fault_of Quotation = OpenQuote
fault_of Escape = BadEscape
fault_of _ = BadChar

-- by this case no token is spelled from the place on
abbrev pub SpellsNone : List ℕ → Case → ℕ → Type 0
SpellsNone x case i = (j : ℕ) (kind : TokenKind) → ¬ SpellsCase x case i j kind

-- the first case that fits at the place spells no token, and this is its fault
abbrev pub FaultAt : List ℕ → State → ℕ → Fault → Type 0
FaultAt x state i fault =
    (case : Case) × CaseAt x state i case × SpellsNone x case i × (fault ≡ fault_of case)
