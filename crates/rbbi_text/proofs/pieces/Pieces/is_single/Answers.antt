use Rattle.std.proofs.Common.{sym, subst}
use Rattle.rbbi_model.proofs.ByCharacters.{sum_ones}
use Rattle.rbbi_text.specs.Weighed.{IsSingle}
use Rattle.rbbi_text.proofs.pieces.Pieces.is_single.Goals as goal

pub returns-in-Chars : goal.returns-in-Chars
returns-in-Chars c = λ _. subst (λ u. IsSingle u c.args.self.now) (sym c.in-Chars.is) (sum_ones c.args.self.now)
