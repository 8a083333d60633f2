-- What contracts see of the fields of `Rows`.
use Rattle.std.specs.Prelude.{map}
use Rattle.rbbi_dfa.specs.declared.determinize.position_rows.Rows.TheInside.{Inside}
use Rattle.rbbi_dfa.specs.inner.PositionRows.{PositionRows}

-- the rows of bits that the fields keep
abbrev pub kept_rows : Inside → PositionRows
kept_rows rows = record {
  categories = rows.categories;
  slashes = rows.slashes;
  width = rows.width;
  first = rows.first.items;
  chained = rows.chained.items;
  last = rows.last.items;
  follow = rows.follow.items;
  reads = map (λ row. row.items) rows.reads.items;
  completed = rows.completed.items;
  fronts = rows.fronts.items;
  tags = rows.tags.items;
}
