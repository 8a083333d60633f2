use Rattle.std.proofs.Common.{refl}
use Rattle.rbbi_model.specs.Cover.{end_of}
use Rattle.rbbi_model.specs.Answers.{Preceding, last_before}
use Rattle.rbbi_session.specs.Sessions.{boundaries_of}
use Rattle.rbbi_c.proofs.Found.{finds, same_text}
use Rattle.rbbi_c.proofs.bounds.find_before.Goals as goal

pub returns-clause-found : goal.returns-clause-found
returns-clause-found g c =
    finds c.args.session.now c.preceding-found.new.self c.args.unit (Preceding c.args.place) (last_before (boundaries_of c.args.session.now) c.args.place)
    0 refl c.preceding-found.result c.found_here.result c.preceding-found.ensures.answers c.found_here.ensures

pub returns-clause-same : goal.returns-clause-same
returns-clause-same g c =
    same_text c.args.session.now c.preceding-found.new.self c.args.unit (Preceding c.args.place) (last_before (boundaries_of c.args.session.now) c.args.place)
    0 refl c.preceding-found.result c.preceding-found.ensures.answers
