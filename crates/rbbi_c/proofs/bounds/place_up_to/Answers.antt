use Rattle.rbbi_session.proofs.UnitCursors.{up_to_index}
use Rattle.rbbi_c.proofs.bounds.place_up_to.Goals as goal

pub returns-clause-up_to : goal.returns-clause-up_to
returns-clause-up_to c = up_to_index c.args.unit c.args.text.now c.args.o c.index.result c.index.ensures
