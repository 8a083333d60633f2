use Rattle.std.proofs.Common.{sym, subst}
use Rattle.rbbi_model.specs.Cover.{IsPlaceOf}
use Rattle.rbbi_session.specs.Walks.{reported}
use Rattle.rbbi_session.specs.UnitWalks.{in_unit}
use Rattle.rbbi_session.proofs.UnitAnswering.{by_unit, stands_in}
use Rattle.rbbi_session.proofs.Walking.{is_measured}
use Rattle.rbbi_session.proofs.in_unit_walk.InUnitWalk.current.Goals as goal

pub returns-clause-boundary : goal.returns-clause-boundary
returns-clause-boundary g c =
    let u = c.self.inside.unit in
    let s = c.self.inside.asked in
    subst (λ v. IsPlaceOf (reported (in_unit g.W.Walk.view) v) c.self.inside.offset) c.self.view_is
    (subst (IsPlaceOf (reported (in_unit g.W.Walk.view) (by_unit u s))) (sym c.self.invariant.0)
    (is_measured u (g.W.Walk.view.state s).text (reported g.W.Walk.view s) (g.W.Walk.view.state s).cursor
    (stands_in g.W.Walk.view c.self.view_is c.here-here.ensures.stands).at))
