use Rattle.std.proofs.Common.{◌≡◌, ◌+◌, ◌*◌, ◌++◌, length, take, map, get_or}
use Rattle.rbbi_model.specs.Tables.{empty_head}
use Rattle.rbbi_table.specs.Kept.{move_flags}
use Rattle.rbbi_table.proofs.moves.push_row.Given as goal

abbrev pub invariant-loop-next : goal.invariant-loop-next
invariant-loop-next l =
    l.moves.items ≡ l.initial.moves.items ++ map (λ next. next * (length l.steps + 3) * 8 + move_flags (get_or l.rows next empty_head) next)
    (take l.next-index l.steps)
