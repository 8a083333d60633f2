use Rattle.rbbi_model.proofs.RulesCover.{rules_cover}
use Rattle.rbbi_model.proofs.boundaries.boundaries_cover_the_text.Goals as goal

pub returns : goal.returns
returns c = rules_cover
