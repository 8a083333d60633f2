-- What the errors of the lexer say.
use Rattle.std.specs.Prelude.{ℕ, List, codes, Option, None, Some}
use Rattle.rbbi_lex.specs.declared.error.LexErr.{LexErr}
use Rattle.rbbi_lex.specs.declared.error.LexErr.TheVariants.{BadChar, BadEscape, OpenQuote, OpenProperty, BadTag, BadName, Memory}
use Rattle.rbbi_lex.specs.Faults.{Fault}
use Rattle.rbbi_lex.specs.Faults as Faults
use Rattle.rbbi_lex.specs.Lexing.{IsLexFault}

-- this holds of the fault and the place that the error reports; running out of memory reports none
abbrev pub Reports : (Fault → ℕ → Type 0) → LexErr → Type 0
Reports P (BadChar place) = P Faults.BadChar place
Reports P (BadEscape place) = P Faults.BadEscape place
Reports P (OpenQuote place) = P Faults.OpenQuote place
Reports P (OpenProperty place) = P Faults.OpenProperty place
Reports P (BadTag place) = P Faults.BadTag place
Reports P (BadName place) = P Faults.BadName place
Reports P Memory = Unit {0}

-- the error reports the first fault of the text
abbrev pub TellsFault : List ℕ → LexErr → Type 0
TellsFault x e = Reports (IsLexFault x) e

-- the name of the error
abbrev pub label_of : LexErr → List ℕ
label_of (BadChar place) = codes "BadChar"
label_of (BadEscape place) = codes "BadEscape"
label_of (OpenQuote place) = codes "OpenQuote"
label_of (OpenProperty place) = codes "OpenProperty"
label_of (BadTag place) = codes "BadTag"
label_of (BadName place) = codes "BadName"
label_of Memory = codes "Memory"

-- the place that the error carries
abbrev pub place_of : LexErr → Option ℕ
place_of (BadChar place) = Some place
place_of (BadEscape place) = Some place
place_of (OpenQuote place) = Some place
place_of (OpenProperty place) = Some place
place_of (BadTag place) = Some place
place_of (BadName place) = Some place
place_of Memory = None
