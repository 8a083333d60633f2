use Rattle.rbbi_session.proofs.SessionWalks.{answered}
use Rattle.rbbi_session.proofs.session_walk.SessionByWalk.previous.Goals as goal

pub returns : goal.returns
returns g c = answered c.previous.ensures.answers c.previous.ensures.reads
