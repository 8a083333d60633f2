use Rattle.rbbi_session.proofs.UnitAnswering.{at_view, stands_in, known_on, found_at, unit_next}
use Rattle.rbbi_session.proofs.in_unit_walk.InUnitWalk.next.Goals as goal

pub returns : goal.returns
returns g c =
    at_view g.W.Walk.view c.self.view_is
    (unit_next g.W.Walk.view c.self.inside.unit c.self.inside.asked c.next-place.new.self _ _
    (stands_in g.W.Walk.view c.self.view_is c.here-known.ensures.stands)
    c.next-place.result c.offset_found.result c.next-place.ensures
    (found_at _ _ c.offset_of_cursor-self-inside.ensures c.offset_found.ensures))

pub offset_of_cursor-self-inside-requires : goal.offset_of_cursor-self-inside-requires
offset_of_cursor-self-inside-requires g c = known_on g.W.Walk.view c.self.view_is c.here-known.ensures.known c.next-place.ensures.asked
