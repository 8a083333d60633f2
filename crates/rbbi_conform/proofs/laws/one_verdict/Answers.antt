use Rattle.rbbi_conform.proofs.OneVerdict.{same_verdict}
use Rattle.rbbi_conform.proofs.laws.one_verdict.Goals as goal

pub returns : goal.returns
returns c = same_verdict
