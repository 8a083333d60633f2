-- The error of the code for a fault.
use Rattle.std.specs.Prelude.{ℕ}
use Rattle.rbbi_lex.specs.declared.error.LexErr.{LexErr}
use Rattle.rbbi_lex.specs.declared.error.LexErr.TheVariants.{BadChar, BadEscape, OpenQuote, OpenProperty, BadTag, BadName}
use Rattle.rbbi_lex.specs.Faults.{Fault}
use Rattle.rbbi_lex.specs.Faults as Faults

-- the error for a fault at a place
abbrev pub error_of : Fault → ℕ → LexErr
error_of Faults.BadChar place = BadChar place
error_of Faults.BadEscape place = BadEscape place
error_of Faults.OpenQuote place = OpenQuote place
error_of Faults.OpenProperty place = OpenProperty place
error_of Faults.BadTag place = BadTag place
error_of Faults.BadName place = BadName place
