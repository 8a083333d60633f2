use Rattle.rbbi_positions.proofs.WalkLaws.{prefixes_are_walks}
use Rattle.rbbi_positions.proofs.laws.prefixes_are_walks.Goals as goal

pub returns : goal.returns
returns c = prefixes_are_walks
