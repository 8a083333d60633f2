use Rattle.std.proofs.Common.{sym, ap, ◌∙◌, subst}
use Rattle.std.specs.List.{AllByRecursion}
use Rattle.rbbi_model.specs.ValidTables.{IsValidTable}
use Rattle.rbbi_model.specs.Runs.{IsTrueRun}
use Rattle.rbbi_session.proofs.Reaching.{reached_start}
use Rattle.rbbi_filter.specs.Pairs.{turned}
use Rattle.rbbi_filter.proofs.tailored.Through+Turned+H+T+M.by.Goals as goal

pub invariant_of-result : goal.invariant_of-result
invariant_of-result g c =
    let table = g.H.Holds.table_of c.args.table in
    let x = turned (g.M.Maps.pairs_of c.args.held) (g.T.Chars.characters c.args.text) in
    record {
      reached = reached_start table (subst IsValidTable c.table.ensures c.valid.ensures) x;
      fit = c.in_ok-cache.ensures.1 ∙ ap (λ t. t.slashes) c.table-2.ensures;
      are_true = subst (AllByRecursion (IsTrueRun table x)) (sym c.in_ok-cache.ensures.0) tt;
    }
