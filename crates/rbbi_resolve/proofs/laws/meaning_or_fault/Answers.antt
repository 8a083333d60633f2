use Rattle.rbbi_resolve.proofs.Existence as existence
use Rattle.rbbi_resolve.proofs.laws.meaning_or_fault.Goals as goal

pub returns : goal.returns
returns c = existence.meaning_or_fault
