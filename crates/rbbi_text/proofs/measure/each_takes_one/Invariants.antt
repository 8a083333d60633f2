use Rattle.rbbi_text.specs.Weighed.{IsSingle}
use Rattle.rbbi_text.proofs.measure.each_takes_one.Given as goal

abbrev pub invariant-loop-c : goal.invariant-loop-c
invariant-loop-c l = IsSingle l.unit l.yielded
