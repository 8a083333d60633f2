use Rattle.rbbi_session.proofs.Recalled.{recalls}
use Rattle.rbbi_session.proofs.Walking.{covers, lists_are_paid}
use Rattle.rbbi_session.proofs.session_walk.SessionByWalk.laws.Goals as goal

pub returns-clause-cover : goal.returns-clause-cover
returns-clause-cover g c = covers

pub returns-clause-lists : goal.returns-clause-lists
returns-clause-lists g c = lists_are_paid

pub returns-clause-recall : goal.returns-clause-recall
returns-clause-recall g c = recalls
