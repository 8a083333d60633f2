use Rattle.std.proofs.Common.{◌≡◌, ◌++◌, replicate}
use Rattle.rbbi_positions.proofs.rules.add_owners.Given as goal

abbrev pub invariant-loop : goal.invariant-loop
invariant-loop l = l.owners.items ≡ l.fn.owners.items ++ replicate l.counter l.number
