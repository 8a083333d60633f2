-- A session whose places count a unit: what contracts see of one.
use Rattle.std.specs.Prelude.{◌≡◌, ℕ, List}
use Rattle.rbbi_model.specs.declared.unit.Unit.{Unit as TextUnit}
use Rattle.rbbi_model.specs.Tables.{Table}
use Rattle.rbbi_model.specs.Units.{offset_of}
use Rattle.rbbi_session.specs.Sessions.{Session, IsOpened}

-- the unit of places, and the session by characters that is asked
pub record InUnit (A : Type 0) : Type 0 where
  pub unit : TextUnit
  pub asked : A

-- a session over a table and a text, in a unit
abbrev pub UnitSession : Type 0
UnitSession = InUnit Session

-- where a place of the session's text lies in its unit
abbrev pub offset_in : UnitSession → ℕ → ℕ
offset_in session place = offset_of session.unit session.asked.state.text place

-- the session stands at the start of the text
pub record IsOpenedBy (unit : TextUnit) (table : Table) (x : List ℕ) (session : UnitSession) : Type 0 where
  pub unit_is : session.unit ≡ unit
  pub opened : IsOpened table x session.asked
