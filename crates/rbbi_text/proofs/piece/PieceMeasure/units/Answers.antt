use Rattle.std.proofs.Common.{length, ap, arith}
use Rattle.rbbi_text.proofs.MilestoneLemmas.{sum_small}
use Rattle.rbbi_text.proofs.piece.PieceMeasure.units.Goals as goal

pub taken-requires : goal.taken-requires
taken-requires c = omega (arith, sum_small c.args.unit c.deref.result.now, ap length c.deref.ensures.value, c.self.invariant.few)
