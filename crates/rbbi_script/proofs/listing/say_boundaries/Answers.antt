use Rattle.std.proofs.Common.{refl, ◌∙◌}
use Rattle.rbbi_model.specs.Answers.{Breaks, Listed}
use Rattle.rbbi_model.specs.Scripts.{Ask}
use Rattle.rbbi_session.specs.Walks.{reported}
use Rattle.rbbi_script.proofs.Performed.{says_turn}
use Rattle.rbbi_script.proofs.Listed.{goes_back, breaks_paid, lists}
use Rattle.rbbi_script.proofs.listing.say_boundaries.Goals as goal

pub returns-clause-replies : goal.returns-clause-replies
returns-clause-replies g c =
    let view = g.S.Walk.view in
    says_turn g.S.Walk.view c.args.session.now c.is_boundary.new.self (Ask Breaks) (Listed (reported view c.args.session.now)) c.args.reply.now.items
    c.say_each-said.new.reply.items c.say_each-said.result (c.is_boundary.ensures.asked.same ∙ c.say_each-said.ensures.same.same) refl
    (goes_back g.S.Walk.view c.laws.ensures.cover c.args.session.now c.say_each-said.new.session c.is_boundary.new.self c.current-cursor.result
    c.args.steps.now c.say_each-said.new.steps c.is_boundary.new.steps c.say_each-said.ensures.same c.current-cursor.ensures.at
    c.current-cursor.ensures.boundary c.is_boundary.ensures.asked)
    c.say_each-said.ensures.lines

pub returns-clause-cost : goal.returns-clause-cost
returns-clause-cost g c =
    breaks_paid g.S.Walk.view c.laws.ensures.cover c.args.session.now c.say_each-said.new.session c.is_boundary.new.self c.current-cursor.result
    c.args.steps.now c.say_each-said.new.steps c.is_boundary.new.steps c.say_each-said.ensures.same c.current-cursor.ensures.at
    c.current-cursor.ensures.boundary c.is_boundary.ensures.asked c.laws.ensures.lists c.say_each-said.ensures.cost

pub returns-clause-lists : goal.returns-clause-lists
returns-clause-lists g c =
    lists g.S.Walk.view c.laws.ensures.cover c.args.session.now c.say_each-said.new.session c.is_boundary.new.self c.current-cursor.result
    c.args.steps.now c.say_each-said.new.steps c.is_boundary.new.steps c.say_each-said.ensures.same c.current-cursor.ensures.at
    c.current-cursor.ensures.boundary c.is_boundary.ensures.asked c.say_each-said.result c.say_each-said.ensures.lists
