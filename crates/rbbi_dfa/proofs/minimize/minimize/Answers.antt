use Rattle.std.proofs.Common.{arith}
use Rattle.rbbi_dfa.proofs.Needed.{NeedsRows-from_classes}
use Rattle.rbbi_dfa.proofs.minimize.minimize.Goals as goal

pub returns : goal.returns
returns c =
    let partition = c.rounds.partition in
    NeedsRows-from_classes c.args.automaton.now partition.classes.items partition.firsts.items c.requires.determined c.rounds.invariant 4095 (omega arith)
    (omega (arith, partition.firsts.ok.0))
