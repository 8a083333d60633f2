use Rattle.std.proofs.Common.{ap, arith, length}
use Rattle.rbbi_text.proofs.MilestoneLemmas.{sum_small}
use Rattle.rbbi_text.proofs.piece.Piece.of.Goals as goal

pub taken-size-requires : goal.taken-size-requires
taken-size-requires c = omega (arith, sum_small c.args.unit c.deref.result.now, ap length c.deref.ensures.value)
