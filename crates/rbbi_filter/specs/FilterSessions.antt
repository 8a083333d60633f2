-- A session through a filter: what contracts see of one, and what its calls answer, leave and read.
use Rattle.std.specs.Prelude.{◌≡◌, ℕ, false, List, length, Result, Ok, Err}
use Rattle.rbbi_model.specs.Boundaries.{Boundary}
use Rattle.rbbi_model.specs.Tables.{Table}
use Rattle.rbbi_model.specs.Runs.{Run}
use Rattle.rbbi_model.specs.Answers.{Outside, TooLong}
use Rattle.rbbi_model.specs.Scripts.{State, Refused, Accepted, edit, opened}
use Rattle.rbbi_model.specs.Costs.{edit_cost}
use Rattle.rbbi_cache.specs.Kept.{AreTrueRuns}
use Rattle.rbbi_text.specs.Steps.{RisesUpTo}
use Rattle.rbbi_text.specs.declared.error.EditErr.{EditErr}
use Rattle.rbbi_text.specs.declared.error.EditErr.TheVariants as refused
use Rattle.rbbi_session.specs.Walks.{Kind, View}
use Rattle.rbbi_filter.specs.declared.filter.Filter.{Filter}
use Rattle.rbbi_filter.specs.Filters.{searched, boundaries_through}
use Rattle.rbbi_filter.specs.FilterCosts.{question_through}

-- the filter, the table, the text as it is and the cursor of the moment, and the runs of boundaries that are kept of the searched text
pub record FilterSession : Type 0 where
  pub filter : Filter
  pub table : Table
  pub state : State
  pub runs : List Run

-- the boundaries of the session's text through its filter
abbrev pub boundaries_of : FilterSession → List Boundary
boundaries_of session = boundaries_through session.filter session.table session.state.text

-- each of the kept runs is true of the searched text as it is now
abbrev pub HasTrueRuns : FilterSession → Type 0
HasTrueRuns session = AreTrueRuns session.table (searched session.filter session.state.text) session.runs

-- the filter and the table
pub record FilterSetting : Type 0 where
  pub filter : Filter
  pub table : Table

-- what sessions report through a filter by a table; places and lengths are in characters
abbrev pub filter_kind : Filter → Table → Kind
filter_kind filter table = record {
  boundaries = boundaries_through filter table;
  units = length;
  edit = edit;
  cost = λ state question. question_through filter table state.text state.cursor question;
  recalls = false;
}

-- nothing is said of what a question or an edit leaves of the runs but that they are true
abbrev pub filter_view : View FilterSession FilterSetting
filter_view = record {
  setting = λ session. record { filter = session.filter; table = session.table };
  kind = λ setting. filter_kind setting.filter setting.table;
  state = λ session. session.state;
  asks = λ old question new before after. Unit {0};
  edits = λ old at removed inserted new before after. Unit {0};
}

-- the session stands at the start of the text
pub record IsOpened (filter : Filter) (table : Table) (x : List ℕ) (session : FilterSession) : Type 0 where
  pub filter_is : session.filter ≡ filter
  pub table_is : session.table ≡ table
  pub state_is : session.state ≡ opened x

-- the session has gone to the place, and is as before in all else but its runs
pub record MovesTo (old : FilterSession) (place : ℕ) (new : FilterSession) : Type 0 where
  pub filter_is : new.filter ≡ old.filter
  pub table_is : new.table ≡ old.table
  pub state_is : new.state ≡ record { text = old.state.text; cursor = place }

-- the edit is accepted: the session has the new text, and its cursor is at 0
pub record AcceptsEdit (old : FilterSession) (at removed : ℕ) (inserted : List ℕ) (new : FilterSession) : Type 0 where
  pub accepted : edit old.state.text at removed inserted ≡ Accepted new.state.text (length new.state.text)
  pub start : new.state.cursor ≡ 0
  pub filter_is : new.filter ≡ old.filter
  pub table_is : new.table ≡ old.table

-- what an edit answers and leaves; after a refusal all is as before
abbrev pub EditAnswers : {T : Type 0} → FilterSession → ℕ → ℕ → List ℕ → Result T EditErr → FilterSession → Type 0
EditAnswers old at removed inserted (Ok done) new = AcceptsEdit old at removed inserted new
EditAnswers old at removed inserted (Err refused.Outside) new = (edit old.state.text at removed inserted ≡ Refused Outside) × (new ≡ old)
EditAnswers old at removed inserted (Err refused.TooLong) new = (edit old.state.text at removed inserted ≡ Refused TooLong) × (new ≡ old)
EditAnswers old at removed inserted (Err refused.Memory) new = new ≡ old

-- what an edit reads: a refused one nothing
abbrev pub EditReads : {T : Type 0} → Result T EditErr → ℕ → ℕ → Type 0
EditReads (Ok done) before after = RisesUpTo edit_cost before after
EditReads (Err error) before after = after ≡ before
