use Rattle.rbbi_demo.proofs.Demonstrating.{IsAfter}
use Rattle.rbbi_demo.proofs.demonstration.demo.Given as goal

abbrev pub invariant-loop-made : goal.invariant-loop-made
invariant-loop-made g l = IsAfter l.fn.table l.fn.count l._made l.session l.generator.state l.sum
