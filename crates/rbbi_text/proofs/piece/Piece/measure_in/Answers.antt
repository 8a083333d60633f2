use Rattle.std.proofs.Common.{ap, arith, length}
use Rattle.rbbi_text.proofs.MilestoneLemmas.{sum_small}
use Rattle.rbbi_text.proofs.piece.Piece.measure_in.Goals as goal

pub taken-self-inside-requires : goal.taken-self-inside-requires
taken-self-inside-requires c = omega (arith, sum_small c.args.unit c.deref.result.now, ap length c.deref.ensures.value, c.self.invariant.few)
