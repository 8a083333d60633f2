use Rattle.std.proofs.Common.{sym, ap, ◌∙◌, subst}
use Rattle.std.specs.List.{AllByRecursion}
use Rattle.rbbi_model.specs.ValidTables.{IsValidTable}
use Rattle.rbbi_model.specs.Runs.{IsTrueRun}
use Rattle.rbbi_session.proofs.Reaching.{reached_start}
use Rattle.rbbi_filter.specs.Pairs.{turned}
use Rattle.rbbi_filter.proofs.tailored.Through+Turned+H+T+M.of.Goals as goal

pub invariant_of-result : goal.invariant_of-result
invariant_of-result g c =
    let table = g.H.Holds.table_of c.into_parts-table.result.0 in
    let x = turned (g.M.Maps.pairs_of c.args.held) (g.T.Chars.characters c.into_parts-table.result.1) in
    let first = c.table.ensures ∙ c.holder.ensures ∙ sym c.into_parts-table.ensures.table in
    let second = c.table-2.ensures ∙ c.holder-2.ensures ∙ sym c.into_parts-table.ensures.table in
    record {
      reached = reached_start table (subst IsValidTable first c.valid.ensures) x;
      fit = c.in-Ok.ensures.1 ∙ ap (λ t. t.slashes) second;
      are_true = subst (AllByRecursion (IsTrueRun table x)) (sym c.in-Ok.ensures.0) tt;
    }
