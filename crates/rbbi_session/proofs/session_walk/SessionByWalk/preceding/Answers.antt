use Rattle.rbbi_session.proofs.SessionWalks.{answered}
use Rattle.rbbi_session.proofs.session_walk.SessionByWalk.preceding.Goals as goal

pub returns : goal.returns
returns g c = answered c.preceding.ensures.answers c.preceding.ensures.reads
