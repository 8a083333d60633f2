use Rattle.rbbi_lex.proofs.escape.rest_of_escape.Goals as goal

pub returns-in-FourDigits : goal.returns-in-FourDigits
returns-in-FourDigits c = rw c.in-FourDigits.is c.digits.ensures

pub returns-in-EightDigits : goal.returns-in-EightDigits
returns-in-EightDigits c = rw c.in-EightDigits.is c.digits-in-EightDigits.ensures
