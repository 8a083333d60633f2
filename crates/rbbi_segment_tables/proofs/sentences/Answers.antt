use Rattle.rbbi_segment_tables.proofs.SentenceTable.{sentence_boundaries, sentences_break, sentences_spelled, sentences_short}
use Rattle.rbbi_segment_tables.proofs.sentences.Goals as goal

pub returns-clause-places : goal.returns-clause-places
returns-clause-places c = sentences_break

pub returns-clause-statuses : goal.returns-clause-statuses
returns-clause-statuses c = sentence_boundaries

pub returns-clause-valid : goal.returns-clause-valid
returns-clause-valid c = sentences_spelled

pub returns-clause-short : goal.returns-clause-short
returns-clause-short c = sentences_short

pub returns-clause-built : goal.returns-clause-built
returns-clause-built c = λ table valid is. (is, sentence_boundaries table valid is)
