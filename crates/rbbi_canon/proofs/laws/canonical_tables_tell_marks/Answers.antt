use Rattle.rbbi_canon.proofs.Marked.{canonical_tables_tell_marks}
use Rattle.rbbi_canon.proofs.laws.canonical_tables_tell_marks.Goals as goal

pub returns : goal.returns
returns c = canonical_tables_tell_marks
