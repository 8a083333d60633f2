use Rattle.std.specs.List.{All}
use Rattle.rbbi_sets.specs.Rising.{IsRange}
use Rattle.rbbi_base_tests.proofs.code_sets.even_numbers.Given as goal

abbrev pub invariant-loop-half : goal.invariant-loop-half
invariant-loop-half l = All IsRange l.ranges.items
