use Rattle.std.proofs.Common.{subst}
use Rattle.rbbi_segment.specs.Filters.{IsFilterOf}
use Rattle.rbbi_segment.proofs.program.means_of.Goals as goal

pub returns-clause-means : goal.returns-clause-means
returns-clause-means g c =
    let between = g.R.Read.remaining c.table_of.new.input in
    let left = g.R.Read.remaining c.filter_of.new.input in (
      between,
      c.in_ok-table.ensures.table,
      subst (λ t. IsFilterOf t between c.args.request.now.filtering c.in_ok-filter.filter left) c.table_of.ensures.same c.in_ok-filter.ensures.filter,
    )
