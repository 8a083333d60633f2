use Rattle.std.proofs.Common.{◌≡◌, ◌+◌, ◌-◌}
use Rattle.rbbi_table.specs.Parts.{table_of}
use Rattle.rbbi_table.proofs.ShortSearchLemmas.{IsTurnAt}
use Rattle.rbbi_table.proofs.short_search.short_search.Given as goal

abbrev pub invariant-reading : goal.invariant-reading
invariant-reading g l = record {
  turn : IsTurnAt (table_of l.parts) (g.T.Chars.characters l.text) l.s l.at l.next l.end l.end_row;
  read : l.steps ≡ l.fn.steps + (l.at - l.s);
}

abbrev pub decreases-reading : goal.decreases-reading
decreases-reading g l = l.len - l.at
