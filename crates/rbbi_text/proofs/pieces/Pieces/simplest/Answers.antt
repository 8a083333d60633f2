use Rattle.std.proofs.Common.{take, sym, ◌∙◌}
use Rattle.rbbi_model.proofs.ByCharacters.{sum_ones}
use Rattle.rbbi_text.proofs.Singles.{single_parts}
use Rattle.rbbi_text.proofs.pieces.Pieces.simplest.Goals as goal

pub returns-then-is_single : goal.returns-then-is_single
returns-then-is_single c =
    λ i. sum_ones (take i c.args.self.now) ∙ sym (single_parts c.args.unit c.args.self.now (c.is_single.ensures c.if-is_single.true) i).0
