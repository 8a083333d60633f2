use Rattle.std.proofs.Common.{Some, map}
use Rattle.std.specs.List.{AllByRecursion}
use Rattle.rbbi_model.specs.SetTrees as model
use Rattle.rbbi_resolve.specs.inner.Contexts.{files_of, stand_of, AddsRows}
use Rattle.rbbi_resolve.specs.inner.Covered.{Respects}
use Rattle.rbbi_resolve.proofs.leaves.Leaves.add_word.Given as goal

abbrev pub invariant-loop-c : goal.invariant-loop-c
invariant-loop-c l =
    AllByRecursion (λ c. Respects (files_of l.context) (stand_of l.context) (model.Character c)) l.yielded →
    AddsRows l.context (map (λ c. Some (model.Character c)) l.yielded) l.initial.self.rows.items l.self.rows.items
