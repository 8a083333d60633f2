use Rattle.rbbi_dfa.proofs.Surrogates.{have_canonical}
use Rattle.rbbi_dfa.proofs.laws.compiled_tables_have_canonical.Goals as goal

pub returns : goal.returns
returns c = have_canonical c.marks_are_unique.ensures
