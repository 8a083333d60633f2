use Rattle.rbbi_file.proofs.OneAnswer.{one_answer_lem}
use Rattle.rbbi_file.proofs.laws.one_answer.Goals as goal

pub returns : goal.returns
returns c = one_answer_lem
