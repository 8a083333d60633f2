use Rattle.rbbi_c.proofs.Found.{back_there}
use Rattle.rbbi_c.proofs.bounds.go_back.Goals as goal

pub returns-clause-cursor : goal.returns-clause-cursor
returns-clause-cursor g c =
    back_there c.args.session.now c.is_boundary.new.self c.args.cursor _ c.requires c.is_boundary.ensures.answers
