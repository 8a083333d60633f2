-- A session: what contracts see of one, and what its calls answer and leave.
use Rattle.std.specs.Prelude.{◌≡◌, ℕ, Bool, List, [], length, Option, Some, None, Result, Ok, Err, if◌then◌else◌}
use Rattle.rbbi_model.specs.Boundaries.{Boundary}
use Rattle.rbbi_model.specs.Tables.{Table}
use Rattle.rbbi_model.specs.Searches.{table_boundaries}
use Rattle.rbbi_model.specs.Runs.{Run}
use Rattle.rbbi_model.specs.Answers.{Question, Reply, Place, Done, Yes, No, Outside, TooLong, Answer, answer}
use Rattle.rbbi_model.specs.Scripts.{State, Refused, Accepted, edit, opened}
use Rattle.rbbi_cache.specs.Kept.{AreTrueRuns}
use Rattle.rbbi_text.specs.declared.error.EditErr.{EditErr}
use Rattle.rbbi_text.specs.declared.error.EditErr.TheVariants as refused

-- the table, the text and the cursor of the moment, and the runs of boundaries that are kept
pub record Session : Type 0 where
  pub table : Table
  pub state : State
  pub runs : List Run

-- the boundaries of the session's text by its table
abbrev pub boundaries_of : Session → List Boundary
boundaries_of session = table_boundaries session.table session.state.text

-- each of the kept runs is true of the session's text as it is now
abbrev pub HasTrueRuns : Session → Type 0
HasTrueRuns session = AreTrueRuns session.table session.state.text session.runs

-- the answer to the question by the boundaries of the session's text
abbrev pub answer_of : Session → Question → Answer
answer_of session question = answer (boundaries_of session) session.state.cursor question

-- the session stands at the start of the text
pub record IsOpened (table : Table) (x : List ℕ) (session : Session) : Type 0 where
  pub table_is : session.table ≡ table
  pub state_is : session.state ≡ opened x
  pub runs_are : session.runs ≡ []

-- the session has gone to the place, and is as before in all else
pub record MovesTo (old : Session) (place : ℕ) (new : Session) : Type 0 where
  pub table_is : new.table ≡ old.table
  pub state_is : new.state ≡ record { text = old.state.text; cursor = place }

-- the session answers the question with this reply, and its cursor goes where the answer says
pub record Answers (old : Session) (question : Question) (reply : Reply) (new : Session) : Type 0 where
  pub replied : reply ≡ (answer_of old question).reply
  pub moved : MovesTo old (answer_of old question).cursor new

-- the reply of a place that was found, or not
abbrev pub place_reply : Option ℕ → Reply
place_reply None = Done
place_reply (Some place) = Place place

-- the reply of a test
abbrev pub test_reply : Bool → Reply
test_reply is = if is then Yes else No

-- the edit is accepted: the session has the new text, and its cursor is at 0
pub record AcceptsEdit (old : Session) (at removed : ℕ) (inserted : List ℕ) (new : Session) : Type 0 where
  pub accepted : edit old.state.text at removed inserted ≡ Accepted new.state.text (length new.state.text)
  pub start : new.state.cursor ≡ 0
  pub table_is : new.table ≡ old.table

-- what an edit answers and leaves; after a refusal all is as before
abbrev pub EditAnswers : {T : Type 0} → Session → ℕ → ℕ → List ℕ → Result T EditErr → Session → Type 0
EditAnswers old at removed inserted (Ok done) new = AcceptsEdit old at removed inserted new
EditAnswers old at removed inserted (Err refused.Outside) new = (edit old.state.text at removed inserted ≡ Refused Outside) × (new ≡ old)
EditAnswers old at removed inserted (Err refused.TooLong) new = (edit old.state.text at removed inserted ≡ Refused TooLong) × (new ≡ old)
EditAnswers old at removed inserted (Err refused.Memory) new = new ≡ old
