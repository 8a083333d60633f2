use Rattle.std.proofs.Common.{refl, arith}
use Rattle.rbbi_session.proofs.SessionWalks.{answered}
use Rattle.rbbi_session.proofs.session_walk.SessionByWalk.first.Goals as goal

pub returns-clause-asked : goal.returns-clause-asked
returns-clause-asked g c =
    λ at.
    (answered c.first.ensures.answers (record {
      more = omega arith;
      cost = omega arith;
      again = λ _. refl;
      runs = c.first.ensures.runs;
      are_true = c.first.ensures.are_true;
    })).asked
