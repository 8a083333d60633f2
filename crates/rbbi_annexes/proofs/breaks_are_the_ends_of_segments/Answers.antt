use Rattle.rbbi_annexes.proofs.Pieces.{graphemes_are_ends, words_are_ends, sentences_are_ends}
use Rattle.rbbi_annexes.proofs.breaks_are_the_ends_of_segments.Goals as goal

pub returns-clause-graphemes : goal.returns-clause-graphemes
returns-clause-graphemes c = graphemes_are_ends

pub returns-clause-words : goal.returns-clause-words
returns-clause-words c = words_are_ends

pub returns-clause-sentences : goal.returns-clause-sentences
returns-clause-sentences c = sentences_are_ends
