use Rattle.rbbi_segment_tables.proofs.LineTable.{line_boundaries, lines_break, lines_spelled, lines_short}
use Rattle.rbbi_segment_tables.proofs.lines.Goals as goal

pub returns-clause-places : goal.returns-clause-places
returns-clause-places c = lines_break

pub returns-clause-statuses : goal.returns-clause-statuses
returns-clause-statuses c = line_boundaries

pub returns-clause-valid : goal.returns-clause-valid
returns-clause-valid c = lines_spelled

pub returns-clause-short : goal.returns-clause-short
returns-clause-short c = lines_short

pub returns-clause-built : goal.returns-clause-built
returns-clause-built c = λ table valid is. (is, line_boundaries table valid is)
