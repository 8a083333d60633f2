-- A filter and a table as the code has them, and what is reported through the filter.
use Rattle.std.specs.Prelude.{◌≡◌, ℕ, ◌+◌, ◌*◌, List, [], length, if◌then◌else◌}
use Rattle.rbbi_model.specs.Boundaries.{Boundary}
use Rattle.rbbi_model.specs.Tables.{Table}
use Rattle.rbbi_model.specs.Searches.{table_boundaries}
use Rattle.rbbi_model.specs.Lines.{boundary_line, boundary_lines}
use Rattle.rbbi_model.specs.Costs.{breaks_cost}
use Rattle.rbbi_filter.specs.Filters.{reported, reports}
use Rattle.rbbi_filter.specs.FilterCosts.{reporting_cost}
use Rattle.rbbi_filter.specs.declared.filter.Filter.{Filter}
use Rattle.rbbi_tool.specs.Basis.{IsTableOf}
use Rattle.rbbi_tool.specs.Filters.{FilteredBasis}
use Rattle.rbbi_tool.specs.declared.filters.FilteredTable.{FilteredTable}

-- it is this filter, and a table of what boundaries come by
abbrev pub IsFilteredBy : FilteredTable → FilteredBasis → Type 0
IsFilteredBy filtered by = (filtered.filter ≡ by.filter) × IsTableOf filtered.table by.basis

-- the lines of those of the boundaries that are reported of the searched text
abbrev pub reported_lines : Filter → List ℕ → List Boundary → List ℕ
reported_lines filter x boundaries = boundary_lines (reported filter x boundaries)

-- the line of the boundary at this place, if it is reported
abbrev pub reported_line : Filter → List ℕ → ℕ → List ℕ → List ℕ
reported_line filter x at statuses = if reports filter x at then boundary_line (record { at = at; statuses = statuses }) else []

-- what is read while all boundaries of a searched text are gone through, and of each it is asked whether it is reported
abbrev pub scan_cost : Filter → Table → List ℕ → ℕ
scan_cost filter table x = breaks_cost table x 0 + reporting_cost filter * length (table_boundaries table x)
