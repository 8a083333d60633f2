use Rattle.std.proofs.Common.{◌+◌, ◌≤◌, subst}
use Rattle.rbbi_model.specs.Costs.{back_cost}
use Rattle.rbbi_cache.proofs.cache.Cache.find_back.Goals as goal

pub find_back_near-requires-clause-are_true : goal.find_back_near-requires-clause-are_true
find_back_near-requires-clause-are_true g c = rw c.new-near.ensures c.requires.are_true

pub find_back_near-requires-clause-within : goal.find_back_near-requires-clause-within
find_back_near-requires-clause-within g c = rw c.new-near.ensures c.requires.within

pub returns-clause-answer : goal.returns-clause-answer
returns-clause-answer g c = rw c.new-near.ensures at c.find_back_near.ensures.answer

pub returns-clause-kept : goal.returns-clause-kept
returns-clause-kept g c = rw c.new-near.ensures at c.find_back_near.ensures.kept

pub returns-clause-are_true : goal.returns-clause-are_true
returns-clause-are_true g c = rw c.new-near.ensures at c.find_back_near.ensures.are_true

pub returns-clause-cost : goal.returns-clause-cost
returns-clause-cost g c =
    subst (λ x. c.find_back_near.new.steps ≤ c.args.steps.now + back_cost c.args.table.now x c.args.i) c.new-near.ensures c.find_back_near.ensures.cost
