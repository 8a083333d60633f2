use Rattle.std.proofs.Common.{sym, subst}
use Rattle.rbbi_model.specs.Answers.{First, Place}
use Rattle.rbbi_model.specs.Scripts.{Ask}
use Rattle.rbbi_script.specs.Meaning.{meaning}
use Rattle.rbbi_script.specs.Performing.{Performs}
use Rattle.rbbi_script.proofs.Performed.{says_turn}
use Rattle.rbbi_script.proofs.performing.perform_by.Goals as goal

pub returns-in-First-clause-replies : goal.returns-in-First-clause-replies
returns-in-First-clause-replies g c =
    let asked = c.first.ensures.asked c.args.steps.now in
    subst (λ k. Performs g.S.Walk.view c.args.session.now (meaning k) c.args.reply.now.items c.say.result c.first.new.self c.say.new.reply.items)
    (sym c.in-First.is)
    (says_turn g.S.Walk.view c.args.session.now c.first.new.self (Ask First) (Place c.first.result) c.args.reply.now.items c.say.new.reply.items
    c.say.result asked.same c.first.ensures.replied asked.state_is c.say.ensures)
