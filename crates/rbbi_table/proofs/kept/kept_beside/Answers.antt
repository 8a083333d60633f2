use Rattle.std.proofs.Common.{length, ap, ◌∙◌}
use Rattle.rbbi_table.specs.Parts.{table_of, AreNextRows}
use Rattle.rbbi_table.proofs.RowLemmas.{steps_within}
use Rattle.rbbi_table.proofs.PartLemmas.{valid_table, kept_of, near_within}
use Rattle.rbbi_table.proofs.kept.kept_beside.Goals as goal
use Rattle.rbbi_table.proofs.kept.kept_beside.Goals.{After-as_slice-cells}

steps : (c : After-as_slice-cells) → AreNextRows c.args.parts.now.categories c.as_slice-rows.result.now c.as_slice-cells.result.now
steps c =
    steps_within (table_of c.args.parts.now) c.as_slice-rows.result.now c.as_slice-cells.result.now c.as_slice-rows.ensures c.as_slice-cells.ensures
    c.requires.fitting.cells c.requires.rows

pub short_of-requires-clause-next : goal.short_of-requires-clause-next
short_of-requires-clause-next c = steps (goal.at.short_of-requires-clause-next c).After-as_slice-cells

pub short_of-requires-clause-within : goal.short_of-requires-clause-within
short_of-requires-clause-within c =
    near_within (table_of c.args.parts.now) c.in_ok-blocks.blocks.numbers.items c.in_ok-blocks.blocks.categories.items
    c.requires.ranges (rw c.as_slice-2.ensures at c.in_ok-blocks.ensures)

pub moves_beside-requires-clause-steps : goal.moves_beside-requires-clause-steps
moves_beside-requires-clause-steps c = steps (goal.at.moves_beside-requires-clause-steps c).After-as_slice-cells

pub returns : goal.returns
returns c =
    kept_of (valid_table c.requires (rw c.as_slice.ensures at c.are_bytes.ensures)) (rw c.as_slice-2.ensures at c.in_ok-blocks.ensures)
    (λ none. rw (c.as_slice-rows.ensures, c.as_slice-cells.ensures) at (c.in_ok-moves.ensures (ap length c.deref.ensures.value ∙ none)))
    (rw (c.as_slice-rows.ensures, c.as_slice-cells.ensures) at c.in_ok-short.ensures.moves)
    c.in_ok-short.ensures.near
    c.in_ok-short.ensures.start
