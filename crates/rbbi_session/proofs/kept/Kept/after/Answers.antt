use Rattle.std.proofs.Common.{◌≡◌, sym, ap, ◌∙◌, subst}
use Rattle.rbbi_model.specs.Costs.{forward_cost}
use Rattle.rbbi_session.specs.Questions.{Past}
use Rattle.rbbi_session.specs.Asking.{IsAsked}
use Rattle.rbbi_session.proofs.Asked.{standing}
use Rattle.rbbi_session.proofs.Reaching.{reached_inside}
use Rattle.rbbi_session.proofs.kept.Kept.after.Goals as goal

pub returns-clause-by : goal.returns-clause-by
returns-clause-by g c = record {
  reached = reached_inside c.args.table.now c.valid.ensures (g.T.Chars.characters c.deref_mut-body.result.now.text) c.entry.view_is
      c.in-Some.ensures.answer.1.boundary;
  fit = c.after.ensures.fit ∙ ap (λ k. k.cache.slashes) c.deref_mut-body.ensures.value ∙ ap (λ k. k.slashes) c.self.view_is ∙ c.requires.by.fit;
  are_true = c.after.ensures.are_true;
}

pub returns-clause-reads : goal.returns-clause-reads
returns-clause-reads g c =
    let table = c.args.table.now in
    let body = c.deref_mut-body.result.now in
    let was : standing table (g.T.Chars.characters body.text) body.here.at body.cache.runs ≡ standing table c.args.self.now.state.text
    c.args.self.now.state.cursor c.args.self.now.runs =
    subst (λ k. standing table (g.T.Chars.characters k.text) k.here.at k.cache.runs ≡ standing table c.args.self.now.state.text
    c.args.self.now.state.cursor c.args.self.now.runs) (sym c.deref_mut-body.ensures.value)
    (ap (λ k. standing table k.state.text k.state.cursor k.runs) c.self.view_is) in
    subst (λ s. IsAsked s (Past c.args.i) (forward_cost s.table s.state.text c.args.i)
    (standing table (g.T.Chars.characters body.text) c.entry.inside.at c.after.new.self.runs) c.args.steps.now c.after.new.steps) was
    (record {
      more = c.after.ensures.more;
      cost = c.after.ensures.cost c.in-Some.ensures.answer.0;
      again = λ shown. (c.after.ensures.shown shown.0 shown.1).0;
      runs = (c.in-Some.entry, c.in-Some.ensures.answer.1, c.in-Some.ensures.kept);
      are_true = c.after.ensures.are_true;
    })
