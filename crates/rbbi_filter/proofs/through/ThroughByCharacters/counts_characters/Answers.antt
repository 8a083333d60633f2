use Rattle.std.proofs.Common.{refl}
use Rattle.rbbi_filter.proofs.through.ThroughByCharacters.counts_characters.Goals as goal

pub returns : goal.returns
returns g c = record { units = λ _ _. refl; edits = λ _. refl }
