use Rattle.std.proofs.Common.{◌≡◌, ◌+◌, ◌*◌, ◌/◌, [], length}
use Rattle.rbbi_table.specs.Parts.{rows_of}
use Rattle.rbbi_table.specs.inner.Targets.{AreFirstPairs}
use Rattle.rbbi_table.proofs.safe.safe_pairs.Given as goal

abbrev pub invariant-loop-first : goal.invariant-loop-first
invariant-loop-first l = record {
  all : length l.bytes.items ≡ (l.width * l.width + 7) / 8;
  pairs : AreFirstPairs (rows_of l.width l.rows l.cells []) l.bytes.items (l.first * l.width);
}
