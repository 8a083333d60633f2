use Rattle.rbbi_dfa.specs.inner.Determinizing.{AddsZeros}
use Rattle.rbbi_dfa.proofs.determinize.lead_nowhere.Given as goal

abbrev pub invariant-loop-category : goal.invariant-loop-category
invariant-loop-category l = AddsZeros l.initial.cells.items l.cells.items l._category
