use Rattle.std.proofs.Common.{sym, ◌∙◌}
use Rattle.rbbi_table.specs.Parts.{table_of}
use Rattle.rbbi_table.proofs.RowLemmas.{steps_within}
use Rattle.rbbi_table.proofs.PartLemmas.{AreOwnPairs, stored_are}
use Rattle.rbbi_table.proofs.safe.are_paired.Goals as goal

pub safe_pairs-requires-clause-steps : goal.safe_pairs-requires-clause-steps
safe_pairs-requires-clause-steps c =
    steps_within (table_of c.args.parts.now) c.as_slice-rows.result.now c.as_slice-cells.result.now c.as_slice-rows.ensures c.as_slice-cells.ensures
    c.requires.fitting.cells c.requires.rows

pub returns : goal.returns
returns c =
    let own : AreOwnPairs (table_of c.args.parts.now) c.in_ok-safe.safe = record {
      pairs = rw (c.as_slice-rows.ensures, c.as_slice-cells.ensures) at c.in_ok-safe.ensures;
      small = rw c.as_slice.ensures at c.are_same.ensures.bytes;
      stored = rw c.as_slice-2.ensures at c.are_same.ensures.stored;
    } in
    let means = stored_are c.requires.fitting c.requires.some own in (
      λ same. means.0 (sym c.as_slice.ensures ∙ c.are_same.ensures.same.0 same ∙ c.as_slice-2.ensures),
      λ valid. c.are_same.ensures.same.1 (c.as_slice.ensures ∙ means.1 valid ∙ sym c.as_slice-2.ensures),
    )
