use Rattle.std.proofs.Common.{◌≡◌, drop}
use Rattle.rbbi_props.specs.LooseForms.{loose}
use Rattle.rbbi_props.proofs.common.next_counted.Given as goal

abbrev pub invariant-loop-place : goal.invariant-loop-place
invariant-loop-place l = loose (drop l.place l.text) ≡ loose l.text
