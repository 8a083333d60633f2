use Rattle.std.proofs.Common.{sym}
use Rattle.rbbi_text.proofs.Singles.{offset_of_single}
use Rattle.rbbi_text.proofs.pieces.PiecesUnitText.offset_from.Goals as goal

pub returns-then-is_single : goal.returns-then-is_single
returns-then-is_single c = sym (offset_of_single c.args.unit c.args.self.now (c.is_single.ensures c.if-is_single.true) c.args.i c.requires.within)
