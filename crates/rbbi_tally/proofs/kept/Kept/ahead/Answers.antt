use Rattle.std.proofs.Common.{refl}
use Rattle.rbbi_tally.specs.inner.Kept.{ahead_of}
use Rattle.rbbi_tally.proofs.kept.Kept.ahead.Goals as goal

pub returns-clause-value : goal.returns-clause-value
unfolding ahead_of
returns-clause-value c = refl
