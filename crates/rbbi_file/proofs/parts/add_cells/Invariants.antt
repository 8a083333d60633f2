use Rattle.std.proofs.Common.{◌≡◌, ◌+◌, ◌*◌}
use Rattle.rbbi_file.specs.inner.Reading.{AreCellsAt}
use Rattle.rbbi_file.proofs.parts.add_cells.Given as goal

abbrev pub invariant-loop-cell : goal.invariant-loop-cell
invariant-loop-cell l = AreCellsAt l.size l.bytes l.initial.cells.items l.cells.items l.at l._cell × (l.place ≡ l.at + l.size * l._cell)
