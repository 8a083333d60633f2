use Rattle.std.proofs.Common.{arith, rules}
use Rattle.std.specs.List.Sorted.{IsNonDecreasingBy}
use Rattle.std.proofs.lemmas.List.Sorted.{IsNonDecreasingBy-from_sort_by_key}
use Rattle.rbbi_dfa.specs.inner.PositionRows.{PositionMark}
use Rattle.rbbi_dfa.proofs.determinize.rows_of.sorted.Goals as goal

pub returns-clause-order : goal.returns-clause-order
returns-clause-order c =
    let sorted = c.sort_unstable_by_key.new.self.items in
    let up : IsNonDecreasingBy (λ (m : PositionMark). m.mark) sorted =
    IsNonDecreasingBy-from_sort_by_key (λ (m : PositionMark). m.mark) sorted c.sort_unstable_by_key.ensures.sorted (λ a r q k. search rules) in
    λ i j d less short. up i j d (omega (arith, less)) short
