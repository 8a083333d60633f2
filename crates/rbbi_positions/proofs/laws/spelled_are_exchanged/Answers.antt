use Rattle.rbbi_positions.proofs.WalkLaws.{exchange}
use Rattle.rbbi_positions.proofs.laws.spelled_are_exchanged.Goals as goal

pub returns : goal.returns
returns c = exchange
