use Rattle.std.proofs.Common.{cond, sym, subst, ◌∙◌}
use Rattle.rbbi_model.specs.Answers.{IsBoundary, No}
use Rattle.rbbi_session.specs.Sessions.{test_reply}
use Rattle.rbbi_session.specs.UnitSessions.{InUnit}
use Rattle.rbbi_session.specs.Walks.{IsAnswered}
use Rattle.rbbi_session.specs.UnitWalks.{in_unit}
use Rattle.rbbi_session.specs.inner.UnitPlaces.{IsPlaceFrom}
use Rattle.rbbi_session.proofs.UnitAnswering.{at_view, by_unit, stands_in, known_on, not_true, not_false, unit_whether}
use Rattle.rbbi_session.proofs.in_unit_walk.InUnitWalk.is_boundary.Goals as goal

pub returns-then-not-place : goal.returns-then-not-place
returns-then-not-place g c =
    let seen = c.self.view_is ∙ c.first_place_from-place.ensures.same in
    let place = subst (λ (s : InUnit _). IsPlaceFrom s.unit (g.W.Walk.view.state s.asked).text c.args.o c.first_place_from-place.result) (sym seen)
    c.first_place_from-place.ensures.place in
    at_view g.W.Walk.view seen
    (subst (λ w. IsAnswered (in_unit g.W.Walk.view) (by_unit c.self.inside.unit c.self.inside.asked) (IsBoundary c.args.o) (cond w (test_reply c.is_boundary-is.result) No)
    (by_unit c.self.inside.unit c.is_boundary-is.new.self) c.args.steps.now c.is_boundary-is.new.steps)
    (not_true c.first_place_from-place.result.whole c.if-not-place.true)
    (unit_whether g.W.Walk.view c.self.inside.unit c.self.inside.asked c.is_boundary-is.new.self _ _
    (stands_in g.W.Walk.view c.self.view_is c.known-known.ensures.stands)
    c.args.o c.first_place_from-place.result c.is_boundary-is.result place c.is_boundary-is.ensures))

pub returns : goal.returns
returns g c =
    let seen = c.self.view_is ∙ c.first_place_from-place.ensures.same in
    let place = subst (λ (s : InUnit _). IsPlaceFrom s.unit (g.W.Walk.view.state s.asked).text c.args.o c.first_place_from-place.result) (sym seen)
    c.first_place_from-place.ensures.place in
    at_view g.W.Walk.view seen
    (subst (λ w. IsAnswered (in_unit g.W.Walk.view) (by_unit c.self.inside.unit c.self.inside.asked) (IsBoundary c.args.o) (cond w (test_reply c.is_boundary-is.result) No)
    (by_unit c.self.inside.unit c.is_boundary-is.new.self) c.args.steps.now c.is_boundary-is.new.steps)
    (not_false c.first_place_from-place.result.whole c.if-not-place.false)
    (unit_whether g.W.Walk.view c.self.inside.unit c.self.inside.asked c.is_boundary-is.new.self _ _
    (stands_in g.W.Walk.view c.self.view_is c.known-known.ensures.stands)
    c.args.o c.first_place_from-place.result c.is_boundary-is.result place c.is_boundary-is.ensures))

pub offset_of_cursor-self-inside-requires : goal.offset_of_cursor-self-inside-requires
offset_of_cursor-self-inside-requires g c = known_on g.W.Walk.view c.self.view_is c.known-known.ensures.known c.is_boundary-is.ensures.asked
