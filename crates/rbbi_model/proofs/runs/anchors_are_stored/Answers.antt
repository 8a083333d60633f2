use Rattle.rbbi_model.proofs.Anchors.{anchors_stored}
use Rattle.rbbi_model.proofs.runs.anchors_are_stored.Goals as goal

pub returns : goal.returns
returns c = anchors_stored
