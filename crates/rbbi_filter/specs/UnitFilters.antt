-- A session through a filter whose places count a unit, and how contracts see it as a session of any kind.
use Rattle.std.specs.Prelude.{ℕ}
use Rattle.rbbi_model.specs.declared.unit.Unit.{Unit as TextUnit}
use Rattle.rbbi_model.specs.Tables.{Table}
use Rattle.rbbi_model.specs.Units.{offset_of}
use Rattle.rbbi_session.specs.UnitSessions.{InUnit}
use Rattle.rbbi_session.specs.Walks.{View}
use Rattle.rbbi_session.specs.UnitWalks.{InUnitSetting, in_unit}
use Rattle.rbbi_filter.specs.FilterSessions.{FilterSession, FilterSetting, filter_view}

-- a session through a filter, in a unit
abbrev pub UnitFilterSession : Type 0
UnitFilterSession = InUnit FilterSession

-- where a place of the session's text lies in its unit
abbrev pub offset_in : UnitFilterSession → ℕ → ℕ
offset_in session place = offset_of session.unit session.asked.state.text place

-- the filter, the table and the unit of places
abbrev pub UnitFilterSetting : Type 0
UnitFilterSetting = InUnitSetting FilterSetting

abbrev pub unit_filter_view : View UnitFilterSession UnitFilterSetting
unit_filter_view = in_unit filter_view
