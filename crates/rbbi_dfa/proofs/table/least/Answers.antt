use Rattle.rbbi_dfa.proofs.Leastness.{IsLeastOf-merged}
use Rattle.rbbi_dfa.proofs.table.least.Goals as goal

pub returns : goal.returns
returns c =
    let partition = c.in-Some.partition in
    let minimized = rw c.in-Some.is at c.in_ok-minimize.ensures in
    IsLeastOf-merged c.args.automaton.now _ partition.classes.items partition.firsts.items c.requires minimized c.in_ok-merge-in-Some.ensures
