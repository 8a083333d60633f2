use Rattle.std.proofs.Common.{◌≡◌, take}
use Rattle.rbbi_model.specs.Places.{largest}
use Rattle.rbbi_session.proofs.statuses.greatest.Given as goal

abbrev pub invariant-loop-status : goal.invariant-loop-status
invariant-loop-status l = l.greatest ≡ largest (take l.status-index l.statuses)
