use Rattle.rbbi_positions.proofs.WalkLaws.{spelled_are_walks}
use Rattle.rbbi_positions.proofs.laws.spelled_are_walks.Goals as goal

pub returns : goal.returns
returns c = spelled_are_walks
