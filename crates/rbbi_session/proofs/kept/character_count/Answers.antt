use Rattle.std.proofs.Common.{rules}
use Rattle.std.proofs.lemmas.Str.{chars_from_encodes}
use Rattle.rbbi_session.proofs.kept.character_count.Goals as goal

pub overflow_cast-result : goal.overflow_cast-result
overflow_cast-result c = search (rules, chars_from_encodes)

pub returns : goal.returns
returns c = search (rules, chars_from_encodes)
