use Rattle.std.proofs.Common.{◌≡◌, ◌+◌, ◌≤◌, length, sym, ap, ◌∙◌, subst, arith}
use Rattle.std.proofs.lemmas.List.{length-map}
use Rattle.rbbi_model.specs.Costs.{preceding_cost}
use Rattle.rbbi_text.specs.Steps.{RisesUpTo}
use Rattle.rbbi_cache.specs.Kept.{AreTrueRuns, IsBoundaryOf}
use Rattle.rbbi_session.specs.Scans.{IsConsistent}
use Rattle.rbbi_session.proofs.Reaching.{reached_inside}
use Rattle.rbbi_filter.specs.Pairs.{turn, turned}
use Rattle.rbbi_filter.specs.FilterCosts.{back_through}
use Rattle.rbbi_filter.proofs.Filtering.{preceding_is}
use Rattle.rbbi_filter.proofs.tailored.TurnedMoves.before.Goals as goal

pub invariant_of-self-2 : goal.invariant_of-self-2
invariant_of-self-2 g c =
    let table = c.table-table.result.now in
    let x = turned (g.M.Maps.pairs_of c.self.inside.held) (g.T.Chars.characters c.self.inside.text) in
    let is = c.new-text.ensures in
    subst (λ t. IsConsistent t x c.entry.inside.at c.entry.inside.status c.before-2.new.self.runs c.before-2.new.self.slashes) c.table-table.ensures (record {
      reached = reached_inside table c.valid.ensures x c.entry.view_is
          (subst (λ y. IsBoundaryOf table y c.in-Some.entry) is c.in-Some.ensures.answer.1.boundary);
      fit = c.before-2.ensures.fit ∙ c.self.invariant.fit ∙ ap (λ t. t.slashes) (sym c.table-table.ensures);
      are_true = subst (λ y. AreTrueRuns table y c.before-2.new.self.runs) is c.before-2.ensures.are_true;
    })

pub returns-clause-cost : goal.returns-clause-cost
returns-clause-cost g c =
    let table = g.H.Holds.table_of c.self.inside.table in
    let is = c.new-text.ensures in
    let x = g.T.Chars.characters c.self.inside.text in
    let y = turned (g.M.Maps.pairs_of c.self.inside.held) (g.T.Chars.characters c.self.inside.text) in
    let cost = subst (λ t. c.before-2.new.steps ≤ c.args.steps.now + preceding_cost t y c.args.o) c.table-table.ensures
    (subst (λ z. c.before-2.new.steps ≤ c.args.steps.now + preceding_cost c.table-table.result.now z c.args.o) is c.before-2.ensures.cost) in
    let within : c.args.o ≤ length x = omega (arith, c.requires.within, ap (λ s. length s.state.text) c.self.view_is) in
    let same = preceding_is table y c.args.o c.requires.some (omega (arith, within, length-map x (turn (g.M.Maps.pairs_of c.self.inside.held)))) in
    subst (λ s. RisesUpTo (back_through s.filter s.table s.state.text c.args.o) c.args.steps.now c.before-2.new.steps) c.self.view_is
    (record { more = c.before-2.ensures.more; cost = omega (arith, cost, same) })
