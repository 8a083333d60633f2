use Rattle.std.proofs.lemmas.Bool.{false≢true}
use Rattle.rbbi_filter.proofs.Covering.{through_covers}
use Rattle.rbbi_filter.proofs.ListingCosts.{lists_are_paid}
use Rattle.rbbi_filter.proofs.through.ThroughWalk.laws.Goals as goal

pub returns-clause-cover : goal.returns-clause-cover
returns-clause-cover g c = λ setting x. through_covers setting.filter setting.table x

pub returns-clause-lists : goal.returns-clause-lists
returns-clause-lists g c = lists_are_paid

pub returns-clause-recall : goal.returns-clause-recall
returns-clause-recall g c = λ old now new earlier question start between before after recalls. absurd (false≢true recalls)
