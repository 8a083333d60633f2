-- What a session keeps beside its table.
use Rattle.std.specs.Prelude.{◌≡◌, ℕ, [], List}
use Rattle.rbbi_model.specs.Tables.{Table}
use Rattle.rbbi_model.specs.Runs.{Run}
use Rattle.rbbi_model.specs.Scripts.{State, opened}
use Rattle.rbbi_session.specs.Scans.{IsConsistent}
use Rattle.rbbi_session.specs.Sessions.{Session}

-- the text and the cursor, the number of the status list there, the kept runs, and for how many look-ahead rules there is room
pub record Kept : Type 0 where
  pub state : State
  pub list : ℕ
  pub runs : List Run
  pub slashes : ℕ

-- what is kept is true of its text by this table
abbrev pub IsKeptBy : Table → Kept → Type 0
IsKeptBy table kept = IsConsistent table kept.state.text kept.state.cursor kept.list kept.runs kept.slashes

-- and it stands at the start of this text, with no runs
pub record IsKeptAtStart (table : Table) (x : List ℕ) (kept : Kept) : Type 0 where
  pub state_is : kept.state ≡ opened x
  pub runs_are : kept.runs ≡ []
  pub by_table : IsKeptBy table kept

-- the session that keeps this, by this table
abbrev pub kept_session : Table → Kept → Session
kept_session table kept = record { table = table; state = kept.state; runs = kept.runs }
