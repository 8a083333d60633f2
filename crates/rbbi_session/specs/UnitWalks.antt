-- How contracts see a session by characters, and one whose places count a unit, as one of any kind.
use Rattle.std.specs.Prelude.{◌≡◌, ℕ, ◌+◌, ◌-◌, true, List, length, Some}
use Rattle.rbbi_model.specs.declared.unit.Unit.{Unit as TextUnit}
use Rattle.rbbi_model.specs.Tables.{Table}
use Rattle.rbbi_model.specs.Searches.{table_boundaries}
use Rattle.rbbi_model.specs.Units.{offset_of, measured}
use Rattle.rbbi_model.specs.UnitAnswers.{place_at, place_before, in_characters, edit_in}
use Rattle.rbbi_model.specs.Scripts.{edit}
use Rattle.rbbi_model.specs.Costs.{question_cost}
use Rattle.rbbi_session.specs.Sessions.{Session}
use Rattle.rbbi_session.specs.Asking.{Asks, IsReadForEdit}
use Rattle.rbbi_session.specs.UnitSessions.{InUnit, UnitSession}
use Rattle.rbbi_session.specs.Walks.{Kind, View, IsAsked}

-- what sessions report by a table; places and lengths are in characters
abbrev pub plain_kind : Table → Kind
plain_kind table = record {
  boundaries = table_boundaries table;
  units = length;
  edit = edit;
  cost = λ state question. question_cost table state.text state.cursor question;
  recalls = true;
}

abbrev pub session_view : View Session Table
session_view = record {
  setting = λ session. session.table;
  kind = plain_kind;
  state = λ session. session.state;
  asks = Asks;
  edits = IsReadForEdit;
}

-- What sessions of a kind report in a unit, if places and lengths are in characters without it. A question costs what it asks by
-- characters, from the cursor's place.
abbrev pub kind_in_unit : TextUnit → Kind → Kind
kind_in_unit unit kind = record {
  boundaries = λ x. measured unit x (kind.boundaries x);
  units = λ x. offset_of unit x (length x);
  edit = edit_in unit;
  cost = λ state question. kind.cost (record { text = state.text; cursor = place_before unit state.text state.cursor })
      (in_characters unit state.text question);
  recalls = kind.recalls;
}

-- the setting of the session by characters, and the unit of places
pub record InUnitSetting (Setting : Type 0) : Type 0 where
  pub below : Setting
  pub unit : TextUnit

-- an accepted edit reads, and leaves of what is kept, what the one between the places at its ends does
pub record IsReadBetween {A Setting : Type 0} (view : View A Setting) (old : InUnit A) (at removed : ℕ) (inserted : List ℕ) (new : InUnit A)
    (before after : ℕ) : Type 0 where
  pub first : ℕ
  pub end : ℕ
  pub first_is : place_at old.unit (view.state old.asked).text at ≡ Some first
  pub end_is : place_at old.unit (view.state old.asked).text (at + removed) ≡ Some end
  pub reads : view.edits old.asked first (end - first) inserted new.asked before after

-- a session in a unit: a question asks the session by characters what it comes to in characters
abbrev pub in_unit : {A Setting : Type 0} → View A Setting → View (InUnit A) (InUnitSetting Setting)
in_unit view = record {
  setting = λ session. record { below = view.setting session.asked; unit = session.unit };
  kind = λ setting. kind_in_unit setting.unit (view.kind setting.below);
  state = λ session. let state = view.state session.asked in
      record { text = state.text; cursor = offset_of session.unit state.text state.cursor };
  asks = λ old question new before after. IsAsked view old.asked (in_characters old.unit (view.state old.asked).text question) new.asked before after;
  edits = IsReadBetween view;
}

-- a session over a table and a text, in a unit
abbrev pub UnitSetting : Type 0
UnitSetting = InUnitSetting Table

abbrev pub unit_kind : Table → TextUnit → Kind
unit_kind table unit = kind_in_unit unit (plain_kind table)

abbrev pub unit_view : View UnitSession UnitSetting
unit_view = in_unit session_view
