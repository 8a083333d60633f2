use Rattle.std.proofs.Common.{◌≡◌, ◌++◌, take}
use Rattle.std.specs.List.{flat_map}
use Rattle.rbbi_tool.specs.Command.Tally.{count_line}
use Rattle.rbbi_tool.proofs.tallying.say_each.Given as goal

abbrev pub invariant-loop-pair : goal.invariant-loop-pair
invariant-loop-pair l = l.made.items ≡ l.initial.made.items ++ flat_map count_line (take l.pair-index l.counts)
