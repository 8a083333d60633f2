use Rattle.rbbi_resolve.proofs.Earliest.{least_noted, none_noted}
use Rattle.rbbi_resolve.proofs.laws.the_earliest_is_noted.Goals as goal

pub returns : goal.returns
returns c = λ faults. record { least = least_noted faults; none = none_noted faults }
