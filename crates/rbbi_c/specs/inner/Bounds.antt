-- Boundaries as they are found, with their offsets and their greatest statuses, and what is left to list from one on.
use Rattle.std.specs.Prelude.{◌≡◌, ℕ, ◌≤◌, List, [], ◌∷◌, Option, None, Some, if◌then◌else◌, nat_le, IsSomeAnd, MatchOption}
use Rattle.rbbi_model.specs.declared.unit.Unit.{Unit as TextUnit}
use Rattle.rbbi_model.specs.Boundaries.{Boundary}
use Rattle.rbbi_model.specs.Cover.{IsPlaceOf}
use Rattle.rbbi_model.specs.Places.{largest}
use Rattle.rbbi_model.specs.Tables.{Table}
use Rattle.rbbi_model.specs.Searches.{table_boundaries}
use Rattle.rbbi_model.specs.Units.{offset_of}
use Rattle.rbbi_model.specs.Answers.{statuses_at}
use Rattle.rbbi_session.specs.Sessions.{Session}
use Rattle.rbbi_c.specs.declared.bounds.Bound.{Bound}

-- the same table and the same text
pub record HasSameText (old new : Session) : Type 0 where
  pub table_is : new.table ≡ old.table
  pub text_is : new.state.text ≡ old.state.text

-- and the same cursor
pub record HasSameState (old new : Session) : Type 0 where
  pub table_is : new.table ≡ old.table
  pub state_is : new.state ≡ old.state

-- the boundary at a place
abbrev pub boundary_at : List Boundary → ℕ → Boundary
boundary_at boundaries place = record { at = place; statuses = statuses_at boundaries place }

-- this is a boundary of the text by the table, with its offset in the unit and its greatest status
pub record IsBound (table : Table) (unit : TextUnit) (x : List ℕ) (bound : Bound) : Type 0 where
  pub is_place : IsPlaceOf (table_boundaries table x) bound.at
  pub offset_is : bound.offset ≡ offset_of unit x bound.at
  pub status_is : bound.status ≡ largest (statuses_at (table_boundaries table x) bound.at)

-- this is the boundary at the session's cursor
abbrev pub IsHere : Session → TextUnit → Option Bound → Type 0
IsHere session unit found =
    IsSomeAnd found (λ bound. (bound.at ≡ session.state.cursor) × IsBound session.table unit session.state.text bound)

-- the place of a boundary that was found, or not
abbrev pub place_of : Option Bound → Option ℕ
place_of None = None
place_of (Some bound) = Some bound.at

-- what was found, if anything, is a boundary
abbrev pub AreBounds : Table → TextUnit → List ℕ → Option Bound → Type 0
AreBounds table unit x found = MatchOption found (Unit {0}) (IsBound table unit x)

-- the boundary at this place was found, if there is one
pub record Finds (table : Table) (unit : TextUnit) (x : List ℕ) (place : Option ℕ) (found : Option Bound) : Type 0 where
  pub found_at : place_of found ≡ place
  pub are : AreBounds table unit x found

-- the place, if it doesn't lie past another
abbrev pub up_to : ℕ → Option ℕ → Option ℕ
up_to last None = None
up_to last (Some at) = if nat_le at last then Some at else None

-- the place, if it doesn't lie before another
abbrev pub down_to : ℕ → Option ℕ → Option ℕ
down_to first None = None
down_to first (Some at) = if nat_le first at then Some at else None

-- the boundary at the next place, if there is one, and those that are listed after it
abbrev pub listed_from : List Boundary → (ℕ → List Boundary) → Option ℕ → List Boundary
listed_from boundaries after None = []
listed_from boundaries after (Some at) = boundary_at boundaries at ∷ after at
