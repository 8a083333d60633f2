use Rattle.rbbi_model.proofs.FreshTrue.{fresh_true}
use Rattle.rbbi_model.proofs.runs.anchors_lead_to_the_boundaries.Goals as goal

pub returns : goal.returns
returns c = fresh_true
