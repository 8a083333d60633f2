use Rattle.std.proofs.Common.{refl}
use Rattle.rbbi_tally.specs.inner.Kept.{at_of}
use Rattle.rbbi_tally.proofs.kept.Kept.at.Goals as goal

pub returns-clause-value : goal.returns-clause-value
unfolding at_of
returns-clause-value c = refl
