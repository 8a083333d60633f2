use Rattle.rbbi_dfa.proofs.NeededRows.{rows_are_needed, valid_tables_have_rows}
use Rattle.rbbi_dfa.proofs.laws.rows_are_needed.Goals as goal

pub returns-clause-needed : goal.returns-clause-needed
returns-clause-needed c = rows_are_needed c.marks_are_unique.ensures

pub returns-clause-valid : goal.returns-clause-valid
returns-clause-valid c = valid_tables_have_rows
