use Rattle.std.proofs.Common.{◌+◌, sym, subst, arith}
use Rattle.rbbi_file.specs.inner.Reading.{AreRowsAt}
use Rattle.rbbi_file.proofs.Stands.{rows_more}
use Rattle.rbbi_file.proofs.parts.add_rows.Goals as goal

pub loop-row-preserved : goal.loop-row-preserved
loop-row-preserved c = (
  subst (λ rows. AreRowsAt c.args.size c.args.bytes.now c.args.width (c.loop-row._row + 1) rows c.add_cells.new.cells.items c.args.at)
      (sym c.in_ok-push.ensures.items)
      (rows_more c.args.size c.args.bytes.now c.args.width c.loop-row._row c.loop-row.rows.items c.head_at.result c.loop-row.cells.items
      c.add_cells.new.cells.items c.args.at c.loop-row.start c.loop-row.invariant.1 c.loop-row.invariant.0 c.head_at.ensures.stand
      c.head_at.ensures.fits c.in_ok-add_cells.ensures),
  omega (arith, c.loop-row.invariant.1, c.row_size-start.ensures.exact),
)
