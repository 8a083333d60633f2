use Rattle.std.proofs.Common.{◌≡◌, take}
use Rattle.std.specs.Prelude.{flat_map}
use Rattle.rbbi_resolve.specs.RuleLists.{numbers_of_rule}
use Rattle.rbbi_positions.proofs.numbers.all_numbers.Given as goal

abbrev pub invariant-loop-number : goal.invariant-loop-number
invariant-loop-number l = l.numbers.items ≡ flat_map numbers_of_rule (take l.number l.rules.rules)
