use Rattle.std.proofs.Common.{sym, subst}
use Rattle.rbbi_text.proofs.Characters.{IsText-chars}
use Rattle.rbbi_model.specs.Words.{IsText}
use Rattle.rbbi_model.specs.Scripts.{InsertsText}
use Rattle.rbbi_script.specs.Meaning.{meaning}
use Rattle.rbbi_script.proofs.command.Command.inserts_text.Goals as goal

pub returns-in-Replace : goal.returns-in-Replace
returns-in-Replace c =
    subst (λ command. InsertsText (meaning command)) (sym c.in-Replace.is)
    (subst IsText c.as_str-characters.ensures.characters (IsText-chars c.as_str-characters.result.now c.as_str-characters.utf8))
