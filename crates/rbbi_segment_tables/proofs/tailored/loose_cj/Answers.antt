use Rattle.std.proofs.Common.{refl}
use Rattle.rbbi_segment_tables.proofs.TailoredLines.{loose_cj_spelled, loose_cj_short}
use Rattle.rbbi_segment_tables.proofs.tailored.loose_cj.Goals as goal

pub returns-clause-valid : goal.returns-clause-valid
returns-clause-valid c = loose_cj_spelled

pub returns-clause-short : goal.returns-clause-short
returns-clause-short c = loose_cj_short

pub returns-clause-built : goal.returns-clause-built
returns-clause-built c = λ table valid is. (is, λ x t. refl)
