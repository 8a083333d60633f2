use Rattle.std.proofs.Common.{length, ◌-◌}
use Rattle.rbbi_table.proofs.ReadLemmas.{IsReading}
use Rattle.rbbi_table.proofs.read_search.ShortTable.next_on.Given as goal

abbrev pub invariant-loop-at : goal.invariant-loop-at
invariant-loop-at g l = IsReading l.self (g.T.Chars.characters l.text) l.from l.s l.at l.row l.end l.end_row

abbrev pub decreases-loop-at : goal.decreases-loop-at
decreases-loop-at g l = length l.categories - l.at
