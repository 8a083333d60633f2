use Rattle.std.proofs.Common.{◌≡◌, ◌+◌, cond, ltb, length, sym, subst, ◌∙◌}
use Rattle.rbbi_model.specs.Units.{offset_of}
use Rattle.rbbi_model.specs.UnitAnswers.{place_before}
use Rattle.rbbi_session.specs.UnitSessions.{InUnit}
use Rattle.rbbi_session.specs.inner.UnitPlaces.{IsPlaceUpTo}
use Rattle.rbbi_session.proofs.UnitAnswering.{at_view, stands_in, known_on, found_at, unit_following}
use Rattle.rbbi_session.proofs.in_unit_walk.InUnitWalk.following.Goals as goal

pub returns : goal.returns
returns g c =
    let seen = c.self.view_is ∙ c.last_place_up_to-from.ensures.same in
    let place = subst (λ (s : InUnit _). IsPlaceUpTo s.unit (g.W.Walk.view.state s.asked).text c.args.o c.last_place_up_to-from.result.at) (sym seen)
    c.last_place_up_to-from.ensures.past in
    let is = subst (λ (s : InUnit _). c.last_place_up_to-from.result.at
    ≡ cond (ltb (offset_of s.unit (g.W.Walk.view.state s.asked).text (length (g.W.Walk.view.state s.asked).text)) c.args.o) (length (g.W.Walk.view.state s.asked).text + 1)
    (place_before s.unit (g.W.Walk.view.state s.asked).text c.args.o)) (sym seen) c.last_place_up_to-from.ensures.place in
    at_view g.W.Walk.view seen
    (unit_following g.W.Walk.view c.self.inside.unit c.self.inside.asked c.following-place.new.self _ _
    (stands_in g.W.Walk.view c.self.view_is c.known-known.ensures.stands)
    c.args.o c.last_place_up_to-from.result.at c.following-place.result c.offset_found.result place is c.following-place.ensures
    (found_at _ _ c.offset_of_cursor-self-inside.ensures c.offset_found.ensures))

pub offset_of_cursor-self-inside-requires : goal.offset_of_cursor-self-inside-requires
offset_of_cursor-self-inside-requires g c = known_on g.W.Walk.view c.self.view_is c.known-known.ensures.known c.following-place.ensures.asked
