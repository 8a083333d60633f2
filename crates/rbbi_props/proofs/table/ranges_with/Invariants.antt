use Rattle.std.proofs.Common.{◌≡◌, take}
use Rattle.std.specs.List.{All}
use Rattle.rbbi_sets.specs.Rising.{IsRange}
use Rattle.rbbi_props.specs.Lookups.{ranges_with}
use Rattle.rbbi_props.proofs.table.ranges_with.Given as goal

abbrev pub invariant-loop-file : goal.invariant-loop-file
invariant-loop-file l =
    (l.ranges.items ≡ ranges_with (take l.file-index l.files) l.name l.value) × All IsRange l.ranges.items
