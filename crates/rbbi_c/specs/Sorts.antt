-- The sorts of sessions that a handle may hold, and what a call answers of the one that it holds.
use Rattle.std.specs.Prelude.{Option, MatchOption}
use Rattle.rbbi_model.specs.declared.unit.Unit.{Unit as TextUnit}
use Rattle.rbbi_session.specs.UnitSessions.{UnitSession}
use Rattle.rbbi_session.specs.Walks.{View}
use Rattle.rbbi_session.specs.UnitWalks.{UnitSetting, unit_view}
use Rattle.rbbi_filter.specs.UnitFilters.{UnitFilterSession, UnitFilterSetting, unit_filter_view}
use Rattle.rbbi_c.specs.Holding.{session_in, filtered_in}
use Rattle.rbbi_c.specs.declared.held.Held.{Held}
use Rattle.rbbi_c.specs.declared.held.Held.TheVariants.{Session, Filtered}

-- how contracts see a session of a sort, what its unit is, and what a handle is that holds it
pub record Sort (A Setting : Type 0) : Type 1 where
  pub view : View A Setting
  pub unit : A → TextUnit
  pub hold : A → Held

-- by the boundaries of the table
abbrev pub plain : Sort UnitSession UnitSetting
plain = record { view = unit_view; unit = λ session. session.unit; hold = λ session. Session session }

-- through a filter
abbrev pub filtered : Sort UnitFilterSession UnitFilterSetting
filtered = record { view = unit_filter_view; unit = λ session. session.unit; hold = λ session. Filtered session }

-- what holds of the session in the handle, of either sort, or else where there is none
abbrev pub OfSession : Option Held → Type 0 → ((A Setting : Type 0) → Sort A Setting → A → Type 0) → Type 0
OfSession held otherwise Holds =
    MatchOption (session_in held) (MatchOption (filtered_in held) otherwise (Holds UnitFilterSession UnitFilterSetting filtered))
    (Holds UnitSession UnitSetting plain)
