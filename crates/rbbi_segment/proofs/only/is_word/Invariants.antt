use Rattle.std.proofs.Common.{◌≡◌, ◌≤◌, false}
use Rattle.std.specs.List.{list_any, slice_range}
use Rattle.rbbi_segment.specs.Wanted.{is_letter_or_number}
use Rattle.rbbi_segment.proofs.only.is_word.Given as goal

-- no letter or digit stands before this place
abbrev pub invariant-loop-i : goal.invariant-loop-i
invariant-loop-i g l = record {
  first : l.fn.start ≤ l.i;
  last : l.i ≤ l.fn.end;
  none : list_any is_letter_or_number (slice_range l.text l.fn.start l.i) ≡ false;
}
