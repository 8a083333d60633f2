use Rattle.std.proofs.Common.{◌≡◌, ◌+◌, ◌*◌, length}
use Rattle.std.specs.List.{AllByRecursion, flat_map}
use Rattle.rbbi_model.specs.TableFile.{range_bytes}
use Rattle.rbbi_file.specs.Fitting.{FitsRange}
use Rattle.rbbi_file.specs.inner.Reading.{Stand}
use Rattle.rbbi_file.proofs.parts.ranges_at.Given as goal

abbrev pub invariant-loop-range : goal.invariant-loop-range
invariant-loop-range l =
    Stand l.bytes (flat_map range_bytes l.ranges.items) l.at (l.at + 6 * l.range) × (length l.ranges.items ≡ l.range) × AllByRecursion FitsRange l.ranges.items
