use Rattle.std.proofs.Common.{refl}
use Rattle.rbbi_scan.proofs.Fed.{fed_none}
use Rattle.rbbi_scan.proofs.feeding.empty.Goals as goal

pub returns-clause-fed : goal.returns-clause-fed
returns-clause-fed c = λ table. fed_none table _ c.requires.none refl refl
