use Rattle.rbbi_session.proofs.SessionWalks.{answered}
use Rattle.rbbi_session.proofs.session_walk.SessionByWalk.is_boundary.Goals as goal

pub returns : goal.returns
returns g c = answered c.is_boundary.ensures.answers c.is_boundary.ensures.reads
