use Rattle.std.proofs.Common.{◌≡◌, sym, subst}
use Rattle.rbbi_model.specs.Units.{offset_of}
use Rattle.rbbi_model.proofs.ByCharacters.{offset_of_chars}
use Rattle.rbbi_c.proofs.bounds.counted_on.Goals as goal

pub returns-in-Chars : goal.returns-in-Chars
returns-in-Chars g c =
    let x = g.T.Chars.characters c.args.text.now in
    subst (λ u. c.args.to ≡ offset_of u x c.args.to) (sym c.in-Chars.is) (sym (offset_of_chars x c.args.to c.requires.within))
