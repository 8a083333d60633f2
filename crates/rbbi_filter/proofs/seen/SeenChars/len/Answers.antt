use Rattle.std.proofs.Common.{subst}
use Rattle.std.specs.List.{AllByRecursion}
use Rattle.rbbi_model.specs.Words.{IsCharacter, IsText}
use Rattle.rbbi_filter.proofs.Turning.{turned_text}
use Rattle.rbbi_filter.proofs.seen.SeenChars.len.Goals as goal

pub returns-clause-text : goal.returns-clause-text
returns-clause-text g c =
    subst IsText c.self.view_is
    (turned_text (g.M.Maps.pairs_of c.self.inside.held.now)
    (subst (AllByRecursion (λ pair. IsCharacter pair.to)) c.pairs.ensures c.turns_to_characters.ensures)
    (g.T.Chars.characters c.self.inside.text.now) c.len.ensures.text)
