use Rattle.rbbi_resolve.proofs.Existence as existence
use Rattle.rbbi_resolve.proofs.laws.meaning_is_lawful.Goals as goal

pub returns : goal.returns
returns c = existence.lawful_meaning
