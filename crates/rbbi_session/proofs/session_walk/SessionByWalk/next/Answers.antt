use Rattle.rbbi_session.proofs.SessionWalks.{answered}
use Rattle.rbbi_session.proofs.session_walk.SessionByWalk.next.Goals as goal

pub returns : goal.returns
returns g c = answered c.next.ensures.answers c.next.ensures.reads
