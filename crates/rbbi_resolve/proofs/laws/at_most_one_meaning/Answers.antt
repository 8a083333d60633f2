use Rattle.rbbi_resolve.specs.Files.{active_rules}
use Rattle.rbbi_resolve.proofs.OneMeaning.{rules_once}
use Rattle.rbbi_resolve.proofs.laws.at_most_one_meaning.Goals as goal

pub returns : goal.returns
returns c =
    λ files ignored statements rules others s r.
    rules_once c.members_determine.ensures files (active_rules files statements) rules others s.rules_in_order r.rules_in_order
