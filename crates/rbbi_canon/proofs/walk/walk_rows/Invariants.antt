use Rattle.std.proofs.Common.{◌≡◌, ◌+◌, ◌-◌, ◌*◌, ◌<◌, ◌≤◌, length, get_or}
use Rattle.rbbi_canon.proofs.Walking.{IsWalkedSoFar}
use Rattle.rbbi_canon.proofs.walk.walk_rows.Given as goal

abbrev pub invariant-rows : goal.invariant-rows
invariant-rows l =
    IsWalkedSoFar l.grid l.firsts l.met.order.items l.cells.items × (length l.cells.items ≡ l.next * length l.firsts) × (1 ≤ l.next)
    × (l.next ≤ length l.met.order.items) × (length l.met.places.items ≡ l.grid.rows)

abbrev pub decreases-rows : goal.decreases-rows
decreases-rows l = l.grid.rows - l.next

abbrev pub invariant-cells : goal.invariant-cells
invariant-cells l =
    IsWalkedSoFar l.grid l.firsts l.met.order.items l.cells.items × (length l.cells.items ≡ l.next * length l.firsts + l.first-index)
    × (l.next < length l.met.order.items) × (get_or l.met.order.items l.next 0 ≡ l.row) × (length l.met.places.items ≡ l.grid.rows)
