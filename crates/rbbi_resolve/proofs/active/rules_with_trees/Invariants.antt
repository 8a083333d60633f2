use Rattle.rbbi_resolve.specs.inner.RulesSoFar.{AreRulesTo}
use Rattle.rbbi_resolve.proofs.active.rules_with_trees.Given as goal

abbrev pub invariant-loop-number : goal.invariant-loop-number
invariant-loop-number l = AreRulesTo l.context l.leaves l.builder l.switches l.rules.items l.number
