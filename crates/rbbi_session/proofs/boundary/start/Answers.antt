use Rattle.rbbi_session.proofs.Reaching.{reached_start}
use Rattle.rbbi_session.proofs.boundary.start.Goals as goal

pub returns-clause-reached : goal.returns-clause-reached
returns-clause-reached c = λ x. reached_start c.args.table.now c.valid.ensures x
