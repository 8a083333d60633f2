use Rattle.std.proofs.Common.{◌≡◌, ◌+◌, ◌≤◌, sym, ap, ◌∙◌, subst}
use Rattle.rbbi_model.specs.Costs.{forward_cost}
use Rattle.rbbi_text.specs.Steps.{RisesUpTo}
use Rattle.rbbi_cache.specs.Kept.{AreTrueRuns, IsBoundaryOf}
use Rattle.rbbi_session.specs.Scans.{IsConsistent}
use Rattle.rbbi_session.proofs.Reaching.{reached_inside}
use Rattle.rbbi_filter.specs.Pairs.{turned}
use Rattle.rbbi_filter.specs.FilterCosts.{forward_through}
use Rattle.rbbi_filter.proofs.tailored.TurnedMoves.past.Goals as goal

pub invariant_of-self-2 : goal.invariant_of-self-2
invariant_of-self-2 g c =
    let table = c.table-table.result.now in
    let x = turned (g.M.Maps.pairs_of c.self.inside.held) (g.T.Chars.characters c.self.inside.text) in
    let is = c.new-text.ensures in
    subst (λ t. IsConsistent t x c.entry.inside.at c.entry.inside.status c.after.new.self.runs c.after.new.self.slashes) c.table-table.ensures (record {
      reached = reached_inside table c.valid.ensures x c.entry.view_is
          (subst (λ y. IsBoundaryOf table y c.in-Some.entry) is c.in-Some.ensures.answer.1.boundary);
      fit = c.after.ensures.fit ∙ c.self.invariant.fit ∙ ap (λ t. t.slashes) (sym c.table-table.ensures);
      are_true = subst (λ y. AreTrueRuns table y c.after.new.self.runs) is c.after.ensures.are_true;
    })

pub returns-clause-cost : goal.returns-clause-cost
returns-clause-cost g c =
    let x = turned (g.M.Maps.pairs_of c.self.inside.held) (g.T.Chars.characters c.self.inside.text) in
    let cost = subst (λ t. c.after.new.steps ≤ c.args.steps.now + forward_cost t x c.args.o) c.table-table.ensures
    (subst (λ z. c.after.new.steps ≤ c.args.steps.now + forward_cost c.table-table.result.now z c.args.o) c.new-text.ensures
    (c.after.ensures.cost c.in-Some.ensures.answer.0)) in
    subst (λ s. RisesUpTo (forward_through s.filter s.table s.state.text c.args.o) c.args.steps.now c.after.new.steps) c.self.view_is
    (record { more = c.after.ensures.more; cost = cost })
