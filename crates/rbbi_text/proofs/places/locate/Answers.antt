use Rattle.rbbi_text.proofs.CutLemmas.{can_find, is_found}
use Rattle.rbbi_text.proofs.places.locate.Goals as goal

pub find-requires-clause-some : goal.find-requires-clause-some
find-requires-clause-some c = (can_find c.args.pieces.now c.args.starts.now c.args.place c.requires.cut.whole c.requires.cut.begin).0

pub find-requires-clause-full : goal.find-requires-clause-full
find-requires-clause-full c = (can_find c.args.pieces.now c.args.starts.now c.args.place c.requires.cut.whole c.requires.cut.begin).1

pub returns : goal.returns
returns c = is_found c.args.pieces.now c.args.starts.now c.find.result c.args.place c.requires.cut c.requires.inside c.find.ensures
