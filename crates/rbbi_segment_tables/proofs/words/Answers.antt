use Rattle.rbbi_segment_tables.proofs.WordTable.{word_boundaries, words_break, words_spelled, words_short}
use Rattle.rbbi_segment_tables.proofs.words.Goals as goal

pub returns-clause-places : goal.returns-clause-places
returns-clause-places c = words_break

pub returns-clause-statuses : goal.returns-clause-statuses
returns-clause-statuses c = word_boundaries

pub returns-clause-valid : goal.returns-clause-valid
returns-clause-valid c = words_spelled

pub returns-clause-short : goal.returns-clause-short
returns-clause-short c = words_short

pub returns-clause-built : goal.returns-clause-built
returns-clause-built c = λ table valid is. (is, word_boundaries table valid is)
