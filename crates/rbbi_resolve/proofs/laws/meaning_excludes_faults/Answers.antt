use Rattle.rbbi_resolve.proofs.Existence.{not_both}
use Rattle.rbbi_resolve.proofs.laws.meaning_excludes_faults.Goals as goal

pub returns : goal.returns
returns c = λ files ignored statements end rules means f. not_both files ignored statements end rules f.0 means f.1
