use Rattle.rbbi_classes.proofs.StepFirsts.{AreFirsts}
use Rattle.rbbi_classes.proofs.division.first_code_points.Given as goal

abbrev pub invariant-loop-step : goal.invariant-loop-step
invariant-loop-step l = AreFirsts l.steps l.step-index l.bounds.items
