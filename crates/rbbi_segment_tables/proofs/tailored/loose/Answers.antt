use Rattle.std.proofs.Common.{refl}
use Rattle.rbbi_segment_tables.proofs.TailoredLines.{loose_spelled, loose_short}
use Rattle.rbbi_segment_tables.proofs.tailored.loose.Goals as goal

pub returns-clause-valid : goal.returns-clause-valid
returns-clause-valid c = loose_spelled

pub returns-clause-short : goal.returns-clause-short
returns-clause-short c = loose_short

pub returns-clause-built : goal.returns-clause-built
returns-clause-built c = λ table valid is. (is, λ x t. refl)
