use Rattle.std.proofs.Common.{sym, ap, subst}
use Rattle.rbbi_model.specs.Answers.{First}
use Rattle.rbbi_model.specs.Units.{offset_of}
use Rattle.rbbi_session.specs.KnownPlaces.{IsKnown}
use Rattle.rbbi_session.specs.Walks.{IsAsked}
use Rattle.rbbi_session.specs.UnitWalks.{in_unit}
use Rattle.rbbi_session.proofs.UnitAnswering.{by_unit, stands_in, unit_first}
use Rattle.rbbi_session.proofs.in_unit_walk.InUnitWalk.first.Goals as goal

pub returns-clause-asked : goal.returns-clause-asked
returns-clause-asked g c =
    λ at.
    subst (λ s. IsAsked (in_unit g.W.Walk.view) s First (by_unit c.self.inside.unit c.first.new.self) at at) c.self.view_is
    (unit_first g.W.Walk.view c.self.inside.unit c.self.inside.asked c.first.new.self at at
    (stands_in g.W.Walk.view c.self.view_is c.here-here.ensures.stands) (c.first.ensures.asked at))

pub invariant_of-self : goal.invariant_of-self
invariant_of-self g c =
    let state = (c.first.ensures.asked 0).state_is in (
      sym (ap (λ s. offset_of c.self.inside.unit s.text s.cursor) state),
      subst (λ x. IsKnown c.self.inside.unit x c.self.inside.near) (sym (ap (λ s. s.text) state)) c.self.invariant.1,
    )
