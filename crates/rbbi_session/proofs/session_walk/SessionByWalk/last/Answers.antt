use Rattle.rbbi_session.proofs.SessionWalks.{answered}
use Rattle.rbbi_session.proofs.session_walk.SessionByWalk.last.Goals as goal

pub returns : goal.returns
returns g c = answered c.last.ensures.answers c.last.ensures.reads
