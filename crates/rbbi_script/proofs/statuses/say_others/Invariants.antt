use Rattle.std.proofs.Common.{◌≡◌, ◌++◌, take}
use Rattle.std.specs.List.{flat_map}
use Rattle.rbbi_script.specs.inner.Statuses.{next_status}
use Rattle.rbbi_script.proofs.statuses.say_others.Given as goal

abbrev pub invariant-loop-status : goal.invariant-loop-status
invariant-loop-status l = l.reply.items ≡ l.initial.reply.items ++ flat_map next_status (take l.status-index l.statuses)
