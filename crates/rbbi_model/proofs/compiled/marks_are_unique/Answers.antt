use Rattle.rbbi_model.proofs.MarksUnique.{same_marks}
use Rattle.rbbi_model.proofs.compiled.marks_are_unique.Goals as goal

pub returns : goal.returns
returns c = same_marks
