use Rattle.rbbi_model.proofs.Gives.{table_gives}
use Rattle.rbbi_model.proofs.compiled.same_marks_give_the_boundaries.Goals as goal

pub returns : goal.returns
returns c = table_gives
