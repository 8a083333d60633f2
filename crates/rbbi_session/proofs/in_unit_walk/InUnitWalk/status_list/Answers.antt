use Rattle.std.proofs.Common.{ap, ◌∙◌}
use Rattle.rbbi_model.specs.Answers.{statuses_at}
use Rattle.rbbi_session.specs.UnitSessions.{InUnit}
use Rattle.rbbi_session.specs.Walks.{reported}
use Rattle.rbbi_session.specs.UnitWalks.{in_unit}
use Rattle.rbbi_session.proofs.UnitAnswering.{stands_in, unit_statuses}
use Rattle.rbbi_session.proofs.in_unit_walk.InUnitWalk.status_list.Goals as goal

pub returns : goal.returns
returns g c =
    c.status_list.ensures
    ∙ unit_statuses g.W.Walk.view c.self.inside.unit c.self.inside.asked c.self.inside.asked 0 0
    (stands_in g.W.Walk.view c.self.view_is c.here-here.ensures.stands)
    ∙ ap (λ (s : InUnit _). statuses_at (reported (in_unit g.W.Walk.view) s) ((in_unit g.W.Walk.view).state s).cursor) c.self.view_is
