use Rattle.rbbi_session.proofs.UnitAnswering.{at_view, stands_in, known_on, unit_last}
use Rattle.rbbi_session.proofs.in_unit_walk.InUnitWalk.last.Goals as goal

pub returns : goal.returns
returns g c =
    at_view g.W.Walk.view c.self.view_is
    (unit_last g.W.Walk.view c.self.inside.unit c.self.inside.asked c.last-self-inside.new.self _ _
    (stands_in g.W.Walk.view c.self.view_is c.here-known.ensures.stands)
    c.last-self-inside.result c.offset_of_cursor-self-inside.result c.offset_of_cursor-self-inside.ensures c.last-self-inside.ensures)

pub offset_of_cursor-self-inside-requires : goal.offset_of_cursor-self-inside-requires
offset_of_cursor-self-inside-requires g c = known_on g.W.Walk.view c.self.view_is c.here-known.ensures.known c.last-self-inside.ensures.asked
