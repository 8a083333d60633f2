use Rattle.std.proofs.Common.{◌≡◌, ◌++◌, take}
use Rattle.std.specs.List.{All}
use Rattle.rbbi_sets.specs.Rising.{IsRange}
use Rattle.rbbi_props.specs.Lookups.{ranges_of}
use Rattle.rbbi_props.proofs.table.push_rows.Given as goal

abbrev pub invariant-loop-row : goal.invariant-loop-row
invariant-loop-row l =
    (l.ranges.items ≡ l.initial.ranges.items ++ ranges_of (take l.row-index l.rows) l.value) × All IsRange l.ranges.items
