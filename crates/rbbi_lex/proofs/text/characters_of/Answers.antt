use Rattle.std.proofs.Common.{rules}
use Rattle.std.proofs.lemmas.Str.{chars_from_encodes}
use Rattle.rbbi_lex.proofs.text.characters_of.Goals as goal

pub returns-clause-characters : goal.returns-clause-characters
returns-clause-characters c = search (rules, chars_from_encodes)
