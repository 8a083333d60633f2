use Rattle.std.proofs.Common.{◌≡◌, ◌≤◌, eqb, length}
use Rattle.std.specs.List.{slice_split}
use Rattle.rbbi_props.specs.RowLines.{last_part}
use Rattle.rbbi_props.proofs.text.after_last.Given as goal

abbrev pub invariant-loop-rest : goal.invariant-loop-rest
invariant-loop-rest l =
    (length l.rest ≤ length l.text) × (last_part (slice_split (λ b. eqb b l.byte) l.rest) ≡ last_part (slice_split (λ b. eqb b l.byte) l.text))

abbrev pub decreases-loop-rest : goal.decreases-loop-rest
decreases-loop-rest l = length l.rest
