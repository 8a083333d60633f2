use Rattle.std.proofs.Common.{vec_len}
use Rattle.rbbi_lint.proofs.statements.statements_of.Given as goal

abbrev pub decreases-statements : goal.decreases-statements
decreases-statements l = vec_len l.left
