-- What questions and edits read, and what they leave of the kept runs.
use Rattle.std.specs.Prelude.{◌≡◌, ℕ, ◌+◌, ◌≤◌, List, length, Result, Ok, Err}
use Rattle.rbbi_model.specs.Answers.{Question}
use Rattle.rbbi_model.specs.Costs.{question_cost, edit_cost}
use Rattle.rbbi_text.specs.declared.error.EditErr.{EditErr}
use Rattle.rbbi_cache.specs.Edits.{AreKeptAfter}
use Rattle.rbbi_session.specs.Sessions.{Session, HasTrueRuns}
use Rattle.rbbi_session.specs.Questions.{Sent, sent_by, IsShown, LeavesRuns}

-- At most so much was read, and nothing where a kept run shows the answer. The runs are left as what was asked leaves them, and are true.
pub record IsAsked (old : Session) (sent : Sent) (most : ℕ) (new : Session) (before after : ℕ) : Type 0 where
  pub more : before ≤ after
  pub cost : after ≤ before + most
  pub again : IsShown old.state.text old.runs sent → after ≡ before
  pub runs : LeavesRuns old.table old.state.text sent old.runs new.runs
  pub are_true : HasTrueRuns new

-- the question reads at most its cost, and leaves what it asks of the kept runs leaves of them
abbrev pub Asks : Session → Question → Session → ℕ → ℕ → Type 0
Asks old question new before after =
    IsAsked old (sent_by old.state.text old.state.cursor question) (question_cost old.table old.state.text old.state.cursor question) new before after

-- an accepted edit reads at most its cost, and leaves of the kept runs what it doesn't touch
pub record IsReadForEdit (old : Session) (at removed : ℕ) (inserted : List ℕ) (new : Session) (before after : ℕ) : Type 0 where
  pub more : before ≤ after
  pub cost : after ≤ before + edit_cost
  pub runs : AreKeptAfter old.table old.state.text new.state.text at removed (length inserted) old.runs new.runs

-- what an edit reads; a refused one reads nothing
abbrev pub EditReads : {T : Type 0} → Session → ℕ → ℕ → List ℕ → Result T EditErr → Session → ℕ → ℕ → Type 0
EditReads old at removed inserted (Ok done) new before after = IsReadForEdit old at removed inserted new before after
EditReads old at removed inserted (Err error) new before after = after ≡ before
