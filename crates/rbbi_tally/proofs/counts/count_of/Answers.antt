use Rattle.std.proofs.Common.{◌+◌, ◌<◌, length, ap, arith}
use Rattle.rbbi_model.specs.Places.{largest}
use Rattle.rbbi_tally.proofs.Values.{count_below_grows, count_below_here}
use Rattle.rbbi_tally.proofs.counts.count_of.Goals as goal

pub overflow_add-sum : goal.overflow_add-sum
overflow_add-sum c =
    let table = c.args.table.now in
    let counts = c.args.counts.now in
    let list = c.loop-list.list in
    let short : list < length table.lists = omega (arith, c.lists-list-end.ensures, c.loop-list-test.true) in
    let same = ap largest c.status_list.ensures in
    let grows = count_below_grows table counts c.args.value (list + 1) (length table.lists) (omega arith) in
    let here = count_below_here table counts list c.args.value (omega (arith, same, c.greatest.ensures, c.if-greatest-value.true)) in
    omega (arith, c.requires.small)
