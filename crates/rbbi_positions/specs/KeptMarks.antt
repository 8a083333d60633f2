-- What contracts see of the fields of `Positions`.
use Rattle.rbbi_positions.specs.declared.marks.Positions.TheInside.{Inside}
use Rattle.rbbi_positions.specs.PositionMarks.{PositionMarks}

-- the marks that the fields keep
abbrev pub kept_marks : Inside → PositionMarks
kept_marks p = record {
  leaves = p.leaves;
  categories = p.categories;
  words = p.words;
  rules = p.rules.items;
  owners = p.owners.items;
  firsts = p.firsts.items;
  lasts = p.lasts.items;
  front_lasts = p.front_lasts.items;
  followers = p.followers.items;
  readers = p.readers.items;
}
