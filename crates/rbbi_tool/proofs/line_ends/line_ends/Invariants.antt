use Rattle.std.proofs.Common.{◌≡◌, take, map}
use Rattle.rbbi_script.specs.LineEnds.{line_end}
use Rattle.rbbi_tool.proofs.line_ends.line_ends.Given as goal

-- the ends for the lists so far
abbrev pub invariant-loop-list : goal.invariant-loop-list
invariant-loop-list l = l.ends.items ≡ map line_end (take l.list l.table.lists)
