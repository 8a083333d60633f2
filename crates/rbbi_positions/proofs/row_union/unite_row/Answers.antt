use Rattle.std.proofs.Common.{◌*◌, ◌+◌, ◌-◌, length, arith}
use Rattle.rbbi_positions.proofs.RowWrites.{row_united}
use Rattle.rbbi_positions.proofs.row_union.unite_row.Goals as goal

pub returns : goal.returns
returns c =
    let w = length c.args.other.now in
    row_united w c.args.row ((c.args.row * w + w) - c.args.row * w) c.args.rows.now c.unite.new.row (omega arith) (omega arith) c.requires c.args.other.now
    c.unite.ensures
