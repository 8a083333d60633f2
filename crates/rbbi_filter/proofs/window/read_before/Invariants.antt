use Rattle.std.proofs.Common.{◌≡◌, ◌+◌, ◌-◌, ◌≤◌, length, drop}
use Rattle.std.specs.Prelude.{slice_range}
use Rattle.std.specs.List.{suffix_len}
use Rattle.rbbi_filter.specs.Abbreviations.{is_space, without_last_spaces}
use Rattle.rbbi_filter.proofs.window.read_before.Given as goal

abbrev pub invariant-loop-place : goal.invariant-loop-place
invariant-loop-place g l = record {
  room : length l.window ≡ 64;
  low : l.low ≤ l.place;
  within : l.place ≤ l.fn.at;
  first : l.first ≤ 64;
  count : 64 ≤ l.first + (l.fn.at - l.place);
  part : drop l.first l.window ≡ without_last_spaces (slice_range (g.T.Chars.characters l.text) l.place l.fn.at);
  solid : suffix_len is_space (drop l.first l.window) ≡ 0;
  steps : l.steps ≡ l.fn.steps + (l.fn.at - l.place);
}

abbrev pub decreases-loop-place : goal.decreases-loop-place
decreases-loop-place g l = l.place - l.low
