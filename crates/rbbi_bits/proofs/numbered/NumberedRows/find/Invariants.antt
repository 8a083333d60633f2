use Rattle.rbbi_bits.specs.NumberedRows.{items_of}
use Rattle.rbbi_bits.proofs.Buckets.{IsUnfound}
use Rattle.rbbi_bits.proofs.numbered.NumberedRows.find.Given as goal

abbrev pub invariant-loop-at : goal.invariant-loop-at
invariant-loop-at l = IsUnfound (items_of l.self-inside.rows.items) l.bucket l.row l.at

abbrev pub decreases-loop-at : goal.decreases-loop-at
decreases-loop-at l = l.at
