use Rattle.std.specs.List.{All}
use Rattle.rbbi_sets.specs.Rising.{IsRange}
use Rattle.rbbi_base_tests.proofs.ranges.collect.Given as goal

abbrev pub invariant-loop-pair : goal.invariant-loop-pair
invariant-loop-pair l = All IsRange l.ranges.items
