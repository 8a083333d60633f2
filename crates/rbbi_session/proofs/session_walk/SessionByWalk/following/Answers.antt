use Rattle.rbbi_session.proofs.SessionWalks.{answered}
use Rattle.rbbi_session.proofs.session_walk.SessionByWalk.following.Goals as goal

pub returns : goal.returns
returns g c = answered c.following.ensures.answers c.following.ensures.reads
