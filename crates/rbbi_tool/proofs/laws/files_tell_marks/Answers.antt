use Rattle.rbbi_tool.proofs.SameMarks.{files_tell}
use Rattle.rbbi_tool.proofs.laws.files_tell_marks.Goals as goal

pub returns : goal.returns
returns c =
    files_tell c.marks_are_unique.ensures c.compiled_tables_have_canonical.ensures c.canonical_tables_tell_marks.ensures
    c.spellings_tell_the_table.ensures
