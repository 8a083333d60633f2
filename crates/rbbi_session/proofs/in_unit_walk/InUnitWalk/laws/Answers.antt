use Rattle.rbbi_session.proofs.Recalled.{recalls_in_unit}
use Rattle.rbbi_session.proofs.Walking.{covers_in_unit, lists_in_unit}
use Rattle.rbbi_session.proofs.in_unit_walk.InUnitWalk.laws.Goals as goal

pub returns-clause-cover : goal.returns-clause-cover
returns-clause-cover g c = covers_in_unit g.W.Walk.view c.laws.ensures.cover c.counts_characters.ensures

pub returns-clause-lists : goal.returns-clause-lists
returns-clause-lists g c = lists_in_unit g.W.Walk.view c.laws.ensures.cover c.counts_characters.ensures c.laws.ensures.lists

pub returns-clause-recall : goal.returns-clause-recall
returns-clause-recall g c = recalls_in_unit g.W.Walk.view c.laws.ensures.cover c.counts_characters.ensures c.laws.ensures.recall
