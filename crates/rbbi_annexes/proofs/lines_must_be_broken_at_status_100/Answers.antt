use Rattle.rbbi_annexes.proofs.LineStatuses.{must_breaks}
use Rattle.rbbi_annexes.proofs.lines_must_be_broken_at_status_100.Goals as goal

pub returns : goal.returns
returns c = must_breaks
