-- The lines of the boundaries that a filter reports.
use Rattle.std.proofs.Common.{◌≡◌, ℕ, Bool, true, false, cond, List, [], ◌∷◌, ◌++◌, refl, ap, ◌∙◌}
use Rattle.rbbi_model.specs.Boundaries.{Boundary, start}
use Rattle.rbbi_model.specs.Lines.{boundary_line, boundary_lines}
use Rattle.rbbi_filter.specs.declared.filter.Filter.{Filter}
use Rattle.rbbi_filter.specs.declared.filter.Filter.TheVariants.{Suppressing, Turning}
use Rattle.rbbi_filter.specs.Filters.{reported, reports}
use Rattle.rbbi_tool.specs.inner.Filters.{reported_line, reported_lines}
use Rattle.rbbi_tool.proofs.Listing.{WritesEach}

reported_next : (filter : Filter) (x : List ℕ) (b : Boundary) (bs : List Boundary)
    → reported filter x (b ∷ bs) ≡ cond (reports filter x b.at) (b ∷ reported filter x bs) (reported filter x bs)
reported_next (Suppressing list) x b bs = refl
reported_next (Turning pairs) x b bs = refl

none_reported : (filter : Filter) (x : List ℕ) → reported filter x [] ≡ []
none_reported (Suppressing list) x = refl
none_reported (Turning pairs) x = refl

lines_next : (is : Bool) (b : Boundary) (bs : List Boundary) → boundary_lines (cond is (b ∷ bs) bs) ≡ cond is (boundary_line b) [] ++ boundary_lines bs
lines_next true b bs = refl
lines_next false b bs = refl

-- the line of a boundary, if it is reported
abbrev pub line_reported : Filter → List ℕ → Boundary → List ℕ
line_reported filter x b = reported_line filter x b.at b.statuses

-- boundaries that are reported are written one after another
pub reported_each : (filter : Filter) (x : List ℕ) → WritesEach (line_reported filter x) (reported_lines filter x)
reported_each filter x = record {
  none = ap boundary_lines (none_reported filter x);
  one = λ b bs. ap boundary_lines (reported_next filter x b bs) ∙ lines_next (reports filter x b.at) b (reported filter x bs);
}

-- the text's start is told
pub start_reported : (filter : Filter) (x : List ℕ) → boundary_line start ≡ line_reported filter x start
start_reported (Suppressing list) x = refl
start_reported (Turning pairs) x = refl
