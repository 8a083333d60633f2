-- Rows of words as sets of classes.
use Rattle.rbbi_classes.specs.Classes.{ClassBits}
use Rattle.rbbi_classes.specs.declared.word_row.WordRow.{WordRow}

-- the set whose words a row has
abbrev pub bits : WordRow → ClassBits
bits row = record { from = row.from; words = row.words.items }
