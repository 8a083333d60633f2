use Rattle.std.proofs.Common.{arith}
use Rattle.rbbi_lex.specs.Cases.{start_state}
use Rattle.rbbi_lex.proofs.LexingLemmas.{UsesUp-rise}
use Rattle.rbbi_lex.proofs.laws.places_rise.Goals as goal

pub returns : goal.returns
returns c = λ x ts a. UsesUp-rise x start_state 0 0 ts a.0 a.1 (omega arith) a.2
