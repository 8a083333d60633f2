use Rattle.rbbi_table.proofs.checks.check_parts.Goals as goal

pub returns : goal.returns
returns c = record {
  fitting = c.requires;
  ranges = rw c.as_slice.ensures at (c.are_valid_ranges.ensures.0 c.if-not-are_valid_ranges.false);
  lists = rw c.as_slice-2.ensures at (c.are_valid_lists.ensures.0 c.if-not-are_valid_lists.false);
  rows = c.are_valid_rows.ensures.0 c.if-not-are_valid_rows.false;
  fronts = c.in_ok-fronted.ensures.0 c.if-not-fronted.false;
  safe = c.in_ok-paired.ensures.0 c.if-not-paired.false;
}
