use Rattle.std.proofs.Common.{arith}
use Rattle.rbbi_canon.proofs.Orders.{indexed_few}
use Rattle.rbbi_canon.proofs.numbering.Numbering.place_of.Goals as goal

pub overflow_cast-last : goal.overflow_cast-last
overflow_cast-last c =
    let self = c.args.self.now in
    omega (arith, c.len-last.ensures, indexed_few self.order.items self.places.items self.indexed, self.indexed.few)

pub overflow_add-last : goal.overflow_add-last
overflow_add-last c =
    let self = c.args.self.now in
    omega (arith, c.len-last.ensures, indexed_few self.order.items self.places.items self.indexed, self.indexed.few)
