-- Many consecutive suppressed boundaries: what is found on the way back past them.
use Rattle.std.specs.Prelude.{◌≡◌, ℕ, ◌+◌, ◌≤◌, true, false, List, Option, Some, None}
use Rattle.rbbi_model.specs.Tables.{Table}
use Rattle.rbbi_model.specs.Searches.{table_boundaries}
use Rattle.rbbi_model.specs.Answers.{last_before}
use Rattle.rbbi_model.specs.Costs.{back_cost}
use Rattle.rbbi_session.specs.Scans.{IsBoundaryWith}
use Rattle.rbbi_session.specs.Sessions.{Session, boundaries_of, MovesTo}
use Rattle.rbbi_session.specs.declared.boundary.Boundary.{Boundary}
use Rattle.rbbi_filter.specs.Abbreviations.{window_size, is_suppressed, kept}
use Rattle.rbbi_filter.specs.FilterCosts.{back_kept_cost}

-- The last boundary before o that isn't suppressed is this one. Or all from the first one on are suppressed, and so it is the last such
-- before the first: what it costs to find that is left of the cost.
abbrev pub IsLastReported : List (List ℕ) → Table → List ℕ → ℕ → ℕ → Option Boundary → Type 0
IsLastReported list table x first o None =
    (is_suppressed list x first ≡ true)
    × (last_before (kept list x (table_boundaries table x)) o ≡ last_before (kept list x (table_boundaries table x)) first)
    × (back_cost table x o + window_size + back_kept_cost table list x first ≤ back_kept_cost table list x o)
IsLastReported list table x first o (Some last) =
    IsBoundaryWith table x last.at last.status × (is_suppressed list x last.at ≡ false)
    × (last_before (kept list x (table_boundaries table x)) o ≡ Some last.at)

-- the session has gone to the last boundary before o that isn't suppressed, at the cost of that
pub record GoesBackTo (list : List (List ℕ)) (old : Session) (o place : ℕ) (new : Session) (before after : ℕ) : Type 0 where
  pub last : last_before (kept list old.state.text (boundaries_of old)) o ≡ Some place
  pub tells : is_suppressed list old.state.text place ≡ false
  pub moved : MovesTo old place new
  pub more : before ≤ after
  pub cost : after ≤ before + back_kept_cost old.table list old.state.text o
