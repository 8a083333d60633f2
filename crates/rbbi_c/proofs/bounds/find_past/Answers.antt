use Rattle.std.proofs.Common.{refl}
use Rattle.rbbi_model.specs.Cover.{end_of}
use Rattle.rbbi_model.specs.Answers.{Following, first_after}
use Rattle.rbbi_session.specs.Sessions.{boundaries_of}
use Rattle.rbbi_c.proofs.Found.{finds, same_text}
use Rattle.rbbi_c.proofs.bounds.find_past.Goals as goal

pub returns-clause-found : goal.returns-clause-found
returns-clause-found g c =
    finds c.args.session.now c.following-found.new.self c.args.unit (Following c.args.place) (first_after (boundaries_of c.args.session.now) c.args.place)
    (end_of (boundaries_of c.args.session.now)) refl c.following-found.result c.found_here.result c.following-found.ensures.answers c.found_here.ensures

pub returns-clause-same : goal.returns-clause-same
returns-clause-same g c =
    same_text c.args.session.now c.following-found.new.self c.args.unit (Following c.args.place) (first_after (boundaries_of c.args.session.now) c.args.place)
    (end_of (boundaries_of c.args.session.now)) refl c.following-found.result c.following-found.ensures.answers
