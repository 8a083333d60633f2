use Rattle.std.proofs.Common.{◌≡◌, ◌+◌, ◌-◌}
use Rattle.rbbi_table.specs.Parts.{table_of}
use Rattle.rbbi_table.proofs.ShortSearchLemmas.{IsStretch}
use Rattle.rbbi_table.proofs.short_search.stretch_from.Given as goal

abbrev pub invariant-loop-end : goal.invariant-loop-end
invariant-loop-end g l = record {
  over : IsStretch (table_of l.fn.parts) l.moves (g.T.Chars.characters l.text) l.fn.s l.fn.at l.end l.row;
  read : l.steps ≡ l.fn.steps + (l.end - l.fn.at);
}

abbrev pub decreases-loop-end : goal.decreases-loop-end
decreases-loop-end g l = l.len - l.end
