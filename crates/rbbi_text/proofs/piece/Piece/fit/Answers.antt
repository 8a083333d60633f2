use Rattle.std.proofs.Common.{length, ap, arith}
use Rattle.rbbi_text.proofs.Even.{even_fit}
use Rattle.rbbi_text.proofs.piece.Piece.fit.Goals as goal

pub returns : goal.returns
returns c =
    even_fit c.args.unit c.args.self.now c.args.most c.min-count.result
    (omega (arith, c.units.ensures, c.if-units-len.false, c.len-len.ensures, ap length c.self.view_is))
    (omega (arith, c.min-count.ensures, c.len-len.ensures, ap length c.self.view_is))
