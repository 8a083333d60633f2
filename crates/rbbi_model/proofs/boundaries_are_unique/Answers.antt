use Rattle.rbbi_model.proofs.Uniqueness.{same_boundaries}
use Rattle.rbbi_model.proofs.boundaries_are_unique.Goals as goal

pub returns : goal.returns
returns c = same_boundaries
