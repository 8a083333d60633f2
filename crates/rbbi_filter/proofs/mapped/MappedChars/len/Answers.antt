use Rattle.std.proofs.Common.{subst}
use Rattle.rbbi_model.specs.Words.{IsText}
use Rattle.rbbi_filter.proofs.Turning.{turned_text}
use Rattle.rbbi_filter.proofs.mapped.MappedChars.len.Goals as goal

pub returns-clause-text : goal.returns-clause-text
returns-clause-text g c =
    subst IsText c.self.view_is (turned_text c.self.inside.pairs.now c.turns_to_characters.ensures (g.T.Chars.characters c.self.inside.text.now)
    c.len.ensures.text)
