use Rattle.rbbi_segment_tables.proofs.GraphemeTable.{grapheme_boundaries, graphemes_break, graphemes_spelled, graphemes_short}
use Rattle.rbbi_segment_tables.proofs.graphemes.Goals as goal

pub returns-clause-places : goal.returns-clause-places
returns-clause-places c = graphemes_break

pub returns-clause-statuses : goal.returns-clause-statuses
returns-clause-statuses c = grapheme_boundaries

pub returns-clause-valid : goal.returns-clause-valid
returns-clause-valid c = graphemes_spelled

pub returns-clause-short : goal.returns-clause-short
returns-clause-short c = graphemes_short

pub returns-clause-built : goal.returns-clause-built
returns-clause-built c = λ table valid is. (is, grapheme_boundaries table valid is)
