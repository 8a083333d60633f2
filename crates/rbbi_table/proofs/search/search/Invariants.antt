use Rattle.std.proofs.Common.{◌≡◌, ◌+◌, ◌-◌, length}
use Rattle.rbbi_table.specs.Parts.{table_of}
use Rattle.rbbi_table.proofs.SearchLemmas.{IsSearch}
use Rattle.rbbi_table.proofs.search.search.Given as goal

abbrev pub invariant-loop-at : goal.invariant-loop-at
invariant-loop-at g l = record {
  places : length l.places ≡ l.parts.slashes;
  searched : IsSearch (table_of l.parts) (g.T.Chars.characters l.text) l.s l.at l.row l.end l.end_row l.places;
  read : l.steps ≡ l.initial.steps + (l.at - l.s);
}

-- proposed from the loop's first test
abbrev pub decreases-loop-at : goal.decreases-loop-at
decreases-loop-at g l = l.len - l.at
