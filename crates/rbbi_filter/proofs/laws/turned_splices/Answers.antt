use Rattle.rbbi_filter.proofs.Turning.{turned_splice}
use Rattle.rbbi_filter.proofs.laws.turned_splices.Goals as goal

pub returns : goal.returns
returns c = turned_splice
