use Rattle.std.proofs.Common.{◌≡◌, ◌+◌}
use Rattle.rbbi_file.specs.Lengths.{rows_size}
use Rattle.rbbi_file.specs.inner.Reading.{AreRowsAt}
use Rattle.rbbi_file.proofs.parts.add_rows.Given as goal

abbrev pub invariant-loop-row : goal.invariant-loop-row
invariant-loop-row l =
    AreRowsAt l.size l.bytes l.width l._row l.rows.items l.cells.items l.at × (l.start ≡ l.at + rows_size l.size l._row l.width)
