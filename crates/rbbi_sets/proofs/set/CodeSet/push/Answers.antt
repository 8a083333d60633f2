-- The ranges begin up to the code points that are added.
use Rattle.rbbi_sets.proofs.Sweeping.{begin-members, joined-members}
use Rattle.rbbi_sets.proofs.set.CodeSet.push.Goals as goal

pub join_last-requires-clause-begin : goal.join_last-requires-clause-begin
join_last-requires-clause-begin c =
    begin-members 0 c.self.inside.ranges.items c.args.low c.self.invariant (rw c.self.view_is c.requires.behind)

pub returns-clause-members : goal.returns-clause-members
returns-clause-members c =
    rw (← c.self.view_is) (joined-members c.self.inside.ranges.items c.join_last.new.ranges.items c.args.low c.args.high c.in_ok-join_last.ensures.joins)
