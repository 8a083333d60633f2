use Rattle.rbbi_positions.proofs.WalkLaws.{front_walks_are_spelled}
use Rattle.rbbi_positions.proofs.laws.front_walks_are_spelled.Goals as goal

pub returns : goal.returns
returns c = front_walks_are_spelled
