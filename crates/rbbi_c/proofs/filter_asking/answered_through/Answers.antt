use Rattle.std.proofs.Common.{sym, subst}
use Rattle.rbbi_session.specs.Walks.{IsAsked}
use Rattle.rbbi_filter.specs.UnitFilters.{unit_filter_view}
use Rattle.rbbi_c.specs.Asking.{question_of}
use Rattle.rbbi_c.proofs.filter_asking.answered_through.Goals as goal

pub returns-in-First-clause-asked : goal.returns-in-First-clause-asked
returns-in-First-clause-asked g c =
    subst (λ a. IsAsked unit_filter_view c.args.session.now (question_of a) c.first.new.self c.args.steps.now c.args.steps.now) (sym c.in-First.is)
    (c.first.ensures.asked c.args.steps.now)
