use Rattle.std.proofs.Common.{◌+◌, ◌≤◌, sym, ap, ◌∙◌, subst}
use Rattle.rbbi_model.specs.Words.{most_characters}
use Rattle.rbbi_model.specs.Costs.{forward_cost}
use Rattle.rbbi_cache.specs.Kept.{KeptRuns, AreTrueRuns}
use Rattle.rbbi_cache.specs.Shown.{IsShownAfter}
use Rattle.rbbi_cache.specs.inner.Ready.{KeepsTrue}
use Rattle.rbbi_cache.proofs.Keeping.{all_ordered}
use Rattle.rbbi_cache.proofs.cache.Cache.find_past.Goals as goal

pub mark_quiet-requires : goal.mark_quiet-requires
mark_quiet-requires g c =
    all_ordered c.args.table.now c.valid.ensures (g.T.Chars.characters c.args.text.now) most_characters c.len-short.ensures.most c.step.new.self
    (rw c.new-near.ensures at c.in-Some.ensures.kept).1

pub find_past_near-requires-clause-are_true : goal.find_past_near-requires-clause-are_true
find_past_near-requires-clause-are_true g c =
    let same = c.in_default.ensures.kept.0 ∙ ap (λ (s : KeptRuns). s.runs) c.self.view_is in
    subst (AreTrueRuns c.args.table.now c.new-near.result) (sym same)
    (subst (λ x. AreTrueRuns c.args.table.now x c.args.self.now.runs) (sym c.new-near.ensures) c.requires.are_true)

pub find_past_near-requires-clause-within : goal.find_past_near-requires-clause-within
find_past_near-requires-clause-within g c = rw c.new-near.ensures c.requires.within

pub returns-clause-kept : goal.returns-clause-kept
returns-clause-kept g c =
    let same = c.in_default.ensures.kept.0 ∙ ap (λ (s : KeptRuns). s.runs) c.self.view_is in
    subst (λ l. KeepsTrue c.args.table.now (g.T.Chars.characters c.args.text.now) (λ r. IsShownAfter r c.args.i c.find_past_near.result) l
    c.find_past_near.new.self.runs) same (rw c.new-near.ensures at c.find_past_near.ensures.kept)

pub returns-clause-cost : goal.returns-clause-cost
returns-clause-cost g c =
    subst (λ n. c.find_past_near.new.steps ≤ n + forward_cost c.args.table.now (g.T.Chars.characters c.args.text.now) c.args.i) c.in_default.ensures.kept.1
    (subst (λ x. c.find_past_near.new.steps ≤ c.step.new.steps + forward_cost c.args.table.now x c.args.i) c.new-near.ensures c.find_past_near.ensures.cost)
