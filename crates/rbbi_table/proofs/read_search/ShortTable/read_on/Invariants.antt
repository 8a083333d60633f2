use Rattle.std.proofs.Common.{◌≡◌, ◌+◌, ◌-◌, ◌≤◌}
use Rattle.rbbi_table.specs.inner.Searching.{IsGoing}
use Rattle.rbbi_table.proofs.read_search.ShortTable.read_on.Given as goal

abbrev pub invariant-loop-at : goal.invariant-loop-at
invariant-loop-at g l = record {
  going : IsGoing l.self (g.T.Chars.characters l.text) l.s l.at l.row l.end l.end_row;
  further : l.fn.at ≤ l.at;
  read : l.steps ≡ l.fn.steps + (l.at - l.fn.at);
}

abbrev pub decreases-loop-at : goal.decreases-loop-at
decreases-loop-at g l = l.len - l.at
