use Rattle.rbbi_positions.proofs.WalkLaws.{exchange_front}
use Rattle.rbbi_positions.proofs.laws.fronts_are_exchanged.Goals as goal

pub returns : goal.returns
returns c = exchange_front
