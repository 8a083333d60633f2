use Rattle.std.proofs.Common.{◌*◌, ◌+◌, ◌<◌, subst, sym, arith}
use Rattle.rbbi_table.proofs.MoveLemmas.{row_end}
use Rattle.rbbi_table.proofs.kinds.propose.Goals as goal

pub close-requires-clause-target : goal.close-requires-clause-target
close-requires-clause-target c =
    let here = row_end c.args.row c.args.rows c.args.width c.requires.row in
    let low : c.next_row-target.result < c.args.rows =
    subst (λ n. n < c.args.rows) (sym c.next_row-target.ensures) (c.requires.next (c.args.row * c.args.width + c.loop-k.k)
    (omega (arith, here, c.requires.cells))) in
    omega (arith, row_end c.next_row-target.result c.args.rows c.args.width low, c.requires.cells)
