use Rattle.rbbi_sets.proofs.Determined.{members_determine_lem}
use Rattle.rbbi_sets.proofs.laws.members_determine.Goals as goal

pub returns : goal.returns
returns c = members_determine_lem
