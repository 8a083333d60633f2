use Rattle.std.proofs.Common.{refl}
use Rattle.rbbi_tally.specs.inner.Kept.{list_of}
use Rattle.rbbi_tally.proofs.kept.Kept.list.Goals as goal

pub returns-clause-value : goal.returns-clause-value
unfolding list_of
returns-clause-value c = refl
