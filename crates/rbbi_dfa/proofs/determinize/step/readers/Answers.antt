use Rattle.std.proofs.Common.{length, sym, ap, ◌∙◌, arith}
use Rattle.rbbi_bits.specs.NumberedRows.{listed_row}
use Rattle.rbbi_dfa.specs.inner.PositionRows.{PositionRows}
use Rattle.rbbi_bits.proofs.RowLists.{items_at, items_many}
use Rattle.rbbi_dfa.proofs.determinize.step.readers.Goals as goal

pub returns : goal.returns
returns c =
    let many = items_many c.rows.inside.reads.items in
    let short = c.rows.invariant.many_reads in
    let categories = ap (λ (r : PositionRows). r.categories) c.rows.view_is in
    let at = items_at c.rows.inside.reads.items c.args.category c.index.result.now (omega (arith, many, short, categories, c.requires))
    c.index.ensures in
    let wide = c.rows.invariant.reads c.args.category (omega (arith, many, short, categories, c.requires)) in
    record {
      readers = c.as_slice.ensures.value ∙ sym at ∙ ap (λ (r : PositionRows). listed_row r.reads c.args.category) c.rows.view_is;
      wide = omega (arith, wide, ap length at, ap length c.as_slice.ensures.value, ap (λ (r : PositionRows). r.width) c.rows.view_is);
    }
