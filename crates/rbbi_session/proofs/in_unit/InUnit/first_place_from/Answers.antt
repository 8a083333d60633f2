use Rattle.rbbi_session.proofs.UnitCursors.{place_whole, place_after}
use Rattle.rbbi_session.proofs.in_unit.InUnit.first_place_from.Goals as goal

pub returns-then-index-clause-place : goal.returns-then-index-clause-place
returns-then-index-clause-place g c =
    let s = c.args.self.now in
    place_whole s.unit (g.W.Walk.view.state s.asked).text c.args.o c.index-index.result c.index-index.ensures.index c.if-index.true

pub returns-clause-place : goal.returns-clause-place
returns-clause-place g c =
    let s = c.args.self.now in
    place_after s.unit (g.W.Walk.view.state s.asked).text c.args.o c.index-index.result c.index-index.ensures.index c.if-index.false
