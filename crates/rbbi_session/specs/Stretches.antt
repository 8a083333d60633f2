-- Stretches of a text, which are gone through from boundary to boundary by searches that aren't kept.
use Rattle.std.specs.Prelude.{◌≡◌, ℕ, ◌+◌, ◌-◌, ◌<◌, ◌≤◌, ◌&&◌, List, Some, filter, sum_by, nat_le, nat_lt}
use Rattle.rbbi_model.specs.Tables.{Table}
use Rattle.rbbi_model.specs.Searches.{table_boundaries}
use Rattle.rbbi_model.specs.Answers.{last_before}
use Rattle.rbbi_model.specs.Costs.{characters_read, back_cost}
use Rattle.rbbi_session.specs.Sessions.{Session, boundaries_of, MovesTo}

-- what the searches read from the boundaries from a place on and before another one
abbrev pub stretch_cost : Table → List ℕ → ℕ → ℕ → ℕ
stretch_cost table x from to =
    sum_by (λ boundary. characters_read table x boundary.at)
    (filter (λ boundary. nat_le from boundary.at && nat_lt boundary.at to) (table_boundaries table x))

-- The session has gone to a boundary before o: to 0 only where no other one lies before o. From any other one, what is left of the cost
-- back pays for the searches from there up to o, and for each character from there up to one before o.
pub record BeginsStretch (old : Session) (o place : ℕ) (new : Session) (before after : ℕ) : Type 0 where
  pub short : place < o
  pub moved : MovesTo old place new
  pub start : place ≡ 0 → last_before (boundaries_of old) o ≡ Some 0
  pub more : before ≤ after
  pub cost : after ≤ before + back_cost old.table old.state.text o
  pub left : 0 < place →
      after + stretch_cost old.table old.state.text place o + (o - 1 - place) ≤ before + back_cost old.table old.state.text o
