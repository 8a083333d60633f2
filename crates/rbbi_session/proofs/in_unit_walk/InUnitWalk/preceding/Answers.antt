use Rattle.std.proofs.Common.{sym, subst, ◌∙◌}
use Rattle.rbbi_session.specs.UnitSessions.{InUnit}
use Rattle.rbbi_session.specs.inner.UnitPlaces.{IsPlaceFrom}
use Rattle.rbbi_session.proofs.UnitAnswering.{at_view, stands_in, known_on, found_at, unit_preceding}
use Rattle.rbbi_session.proofs.in_unit_walk.InUnitWalk.preceding.Goals as goal

pub returns : goal.returns
returns g c =
    let seen = c.self.view_is ∙ c.first_place_from-from.ensures.same in
    let place = subst (λ (s : InUnit _). IsPlaceFrom s.unit (g.W.Walk.view.state s.asked).text c.args.o c.first_place_from-from.result) (sym seen)
    c.first_place_from-from.ensures.place in
    at_view g.W.Walk.view seen
    (unit_preceding g.W.Walk.view c.self.inside.unit c.self.inside.asked c.preceding-place.new.self _ _
    (stands_in g.W.Walk.view c.self.view_is c.known-known.ensures.stands)
    c.args.o c.first_place_from-from.result c.preceding-place.result c.offset_found.result place c.preceding-place.ensures
    (found_at _ _ c.offset_of_cursor-self-inside.ensures c.offset_found.ensures))

pub offset_of_cursor-self-inside-requires : goal.offset_of_cursor-self-inside-requires
offset_of_cursor-self-inside-requires g c = known_on g.W.Walk.view c.self.view_is c.known-known.ensures.known c.preceding-place.ensures.asked
