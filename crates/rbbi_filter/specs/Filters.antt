-- What stands between a text and its boundaries as they are reported.
use Rattle.std.specs.Prelude.{◌≡◌, ℕ, Bool, true, not, List}
use Rattle.rbbi_model.specs.Rules.{Rule}
use Rattle.rbbi_model.specs.Boundaries.{Boundary, AreBoundaries}
use Rattle.rbbi_model.specs.Tables.{Table}
use Rattle.rbbi_model.specs.Searches.{table_boundaries}
use Rattle.rbbi_filter.specs.Abbreviations.{is_suppressed, kept}
use Rattle.rbbi_filter.specs.declared.filter.Filter.{Filter}
use Rattle.rbbi_filter.specs.declared.filter.Filter.TheVariants.{Suppressing, Turning}
use Rattle.rbbi_filter.specs.Pairs.{turned}

-- the text in which boundaries are looked for
abbrev pub searched : Filter → List ℕ → List ℕ
searched (Suppressing list) x = x
searched (Turning pairs) x = turned pairs x

-- those of its boundaries that are reported
abbrev pub reported : Filter → List ℕ → List Boundary → List Boundary
reported (Suppressing list) x boundaries = kept list x boundaries
reported (Turning pairs) x boundaries = boundaries

-- the boundary at this place of the searched text is reported
abbrev pub reports : Filter → List ℕ → ℕ → Bool
reports (Suppressing list) x at = not (is_suppressed list x at)
reports (Turning pairs) x at = true

-- the boundaries of the text by the table, through the filter
abbrev pub boundaries_through : Filter → Table → List ℕ → List Boundary
boundaries_through filter table x = reported filter x (table_boundaries table (searched filter x))

-- these are the boundaries of the text by the rules, through the filter
abbrev pub AreBoundariesThrough : Filter → List Rule → List ℕ → List Boundary → Type 0
AreBoundariesThrough filter rules x boundaries =
    (all : List Boundary) × AreBoundaries rules (searched filter x) all × (boundaries ≡ reported filter x all)
