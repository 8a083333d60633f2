use Rattle.std.proofs.Common.{Some, map, drop}
use Rattle.rbbi_model.specs.SetTrees as model
use Rattle.rbbi_resolve.specs.Meanings.{Leaf}
use Rattle.rbbi_resolve.proofs.Building.{AreBuilding}
use Rattle.rbbi_resolve.proofs.build.Builder.add_word.Given as goal

abbrev pub invariant-loop : goal.invariant-loop
invariant-loop l =
    AreBuilding l.context l.leaves l.initial.self l.initial.next (map (λ c. Leaf (model.Character c)) l.word) (map (λ c. Some (model.Character c)) l.word)
    l.initial.trees.items l.self l.next l.trees.items (map (λ c. Leaf (model.Character c)) (drop l.counter l.word))
    (map (λ c. Some (model.Character c)) (drop l.counter l.word))
