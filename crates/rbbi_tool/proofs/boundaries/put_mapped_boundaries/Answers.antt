use Rattle.std.proofs.Common.{◌≡◌, ℕ, List, refl, sym, subst, arith}
use Rattle.rbbi_model.specs.Tables.{Table}
use Rattle.rbbi_model.specs.Searches.{table_boundaries}
use Rattle.rbbi_model.specs.Lines.{boundary_lines}
use Rattle.rbbi_filter.specs.declared.pair.Pair.{Pair}
use Rattle.rbbi_filter.specs.declared.filter.Filter.{Filter}
use Rattle.rbbi_filter.specs.declared.filter.Filter.TheVariants.{Turning}
use Rattle.rbbi_filter.specs.Pairs.{turned}
use Rattle.rbbi_filter.specs.Filters.{boundaries_through}
use Rattle.rbbi_filter.specs.FilterCosts.{breaks_through}
use Rattle.rbbi_tool.specs.inner.Filters.{reported_lines, scan_cost}
use Rattle.rbbi_tool.proofs.Emitting.{puts_as}
use Rattle.rbbi_tool.proofs.boundaries.put_mapped_boundaries.Goals as goal

-- all boundaries of the mapped text are reported
turned_lines : (filter : Filter) (pairs : List Pair) (table : Table) (x m : List ℕ) → filter ≡ Turning pairs → m ≡ turned pairs x
    → reported_lines filter m (table_boundaries table m) ≡ boundary_lines (boundaries_through filter table x)
turned_lines filter pairs table x m is at =
    subst (λ f. reported_lines f m (table_boundaries table m) ≡ boundary_lines (boundaries_through f table x)) (sym is)
    (subst (λ n. reported_lines (Turning pairs) n (table_boundaries table n) ≡ boundary_lines (boundaries_through (Turning pairs) table x)) (sym at) refl)

-- it costs nothing to ask whether they are
turned_cost : (filter : Filter) (pairs : List Pair) (table : Table) (x m : List ℕ) → filter ≡ Turning pairs → m ≡ turned pairs x
    → scan_cost filter table m ≡ breaks_through filter table x 0
turned_cost filter pairs table x m is at =
    subst (λ f. scan_cost f table m ≡ breaks_through f table x 0) (sym is)
    (subst (λ n. scan_cost (Turning pairs) table n ≡ breaks_through (Turning pairs) table x 0) (sym at) (omega arith))

pub returns : goal.returns
returns g c =
    puts_as
    (turned_lines c.args.filter.now c.args.pairs.now c.args.table.now (g.T.Chars.characters c.args.text.now) _ c.requires.pairs c.new-turned.ensures)
    (turned_cost c.args.filter.now c.args.pairs.now c.args.table.now (g.T.Chars.characters c.args.text.now) _ c.requires.pairs c.new-turned.ensures)
    c.put_searched_boundaries.ensures
