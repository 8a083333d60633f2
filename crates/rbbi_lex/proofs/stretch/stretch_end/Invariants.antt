use Rattle.std.proofs.Common.{◌≡◌, ◌-◌, ◌≤◌, max, length}
use Rattle.rbbi_lex.specs.Stretches.{stretch_end}
use Rattle.rbbi_lex.proofs.stretch.stretch_end.Given as goal

abbrev pub invariant-loop-at : goal.invariant-loop-at
invariant-loop-at l = record {
  -- the stretch from the start on and the stretch from here on end at one place
  same_end : stretch_end l.stretch l.text l.from ≡ stretch_end l.stretch l.text l.at;
  within : l.at ≤ max l.from (length l.text);
}

abbrev pub decreases-loop-at : goal.decreases-loop-at
decreases-loop-at l = length l.text - l.at
