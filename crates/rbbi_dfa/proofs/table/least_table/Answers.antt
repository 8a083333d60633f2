use Rattle.std.proofs.Common.{sym, subst}
use Rattle.rbbi_table.specs.Pairs.{ArePairsOf}
use Rattle.rbbi_table.specs.Parts.{AreValidParts}
use Rattle.rbbi_dfa.proofs.Finishing.{AreValidParts-finished}
use Rattle.rbbi_dfa.proofs.table.least_table.Goals as goal

-- the parts are those of the finished table
pub from_valid-requires : goal.from_valid-requires
from_valid-requires c =
    let is = c.in_ok-parts.ensures.parts in
    subst AreValidParts (sym is)
    (AreValidParts-finished c.args.automaton.now c.in_ok-least.least c.args.ranges c.in_ok-parts.parts.safe c.requires.ranges c.in_ok-least.ensures
    (subst ArePairsOf is c.in_ok-parts.ensures.safe))
