-- Boundaries of a text, with the numbers of their status lists.
use Rattle.std.specs.Prelude.{◌≡◌, ℕ, ◌<◌, List, ◌∷◌, ◌++◌, length}
use Rattle.rbbi_model.specs.Boundaries.{Boundary}
use Rattle.rbbi_model.specs.Tables.{Table, statuses_of}
use Rattle.rbbi_model.specs.Searches.{table_boundaries}
use Rattle.rbbi_model.specs.Runs.{Run}
use Rattle.rbbi_cache.specs.Kept.{AreTrueRuns}

-- the boundary at the place with the statuses of this list
abbrev pub boundary_at : Table → ℕ → ℕ → Boundary
boundary_at table at list = record { at = at; statuses = statuses_of table list }

-- the place is a boundary with this status list
pub record IsBoundaryWith (table : Table) (x : List ℕ) (at list : ℕ) : Type 0 where
  pub before : List Boundary
  pub after : List Boundary
  pub whole : table_boundaries table x ≡ before ++ boundary_at table at list ∷ after
  pub within : list < length table.lists

-- what a session keeps: a boundary of its text with its status list, runs that are true of the text, and room for its table's searches
pub record IsConsistent (table : Table) (x : List ℕ) (at list : ℕ) (runs : List Run) (slashes : ℕ) : Type 0 where
  pub reached : IsBoundaryWith table x at list
  pub fit : slashes ≡ table.slashes
  pub are_true : AreTrueRuns table x runs
