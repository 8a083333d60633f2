use Rattle.rbbi_model.proofs.Found.{found_lies}
use Rattle.rbbi_model.proofs.searches.next_boundary_is_past_the_start.Goals as goal

pub returns : goal.returns
returns c = found_lies
