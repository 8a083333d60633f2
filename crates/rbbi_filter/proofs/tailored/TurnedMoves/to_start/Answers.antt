use Rattle.std.proofs.Common.{subst}
use Rattle.rbbi_model.specs.ValidTables.{IsValidTable}
use Rattle.rbbi_session.proofs.Reaching.{reached_start}
use Rattle.rbbi_filter.specs.Pairs.{turned}
use Rattle.rbbi_filter.proofs.tailored.TurnedMoves.to_start.Goals as goal

pub invariant_of-self : goal.invariant_of-self
invariant_of-self g c =
    let table = g.H.Holds.table_of c.self.inside.table in
    let x = turned (g.M.Maps.pairs_of c.self.inside.held) (g.T.Chars.characters c.self.inside.text) in
    record {
      reached = reached_start table (subst IsValidTable c.table.ensures c.valid.ensures) x;
      fit = c.self.invariant.fit;
      are_true = c.self.invariant.are_true;
    }
