-- What a handle holds.
use Rattle.std.specs.Prelude.{◌≡◌, ℕ, List, Option, None, Some}
use Rattle.rbbi_model.specs.Tables.{Table as BreakTable}
use Rattle.rbbi_props.specs.Rows.{File}
use Rattle.rbbi_session.specs.UnitSessions.{UnitSession}
use Rattle.rbbi_filter.specs.UnitFilters.{UnitFilterSession}
use Rattle.rbbi_c.specs.Tallying.{UnitTally}
use Rattle.rbbi_c.specs.declared.held.Held.{Held}
use Rattle.rbbi_c.specs.declared.scan_desk.ScanDesk.{ScanDesk}
use Rattle.rbbi_c.specs.declared.held.Held.TheVariants.{Properties, Table, Session, Filtered, Tally, Scan}

-- the session that it holds
abbrev pub session_in : Option Held → Option UnitSession
session_in None = None
session_in (Some (Properties files)) = None
session_in (Some (Table table)) = None
session_in (Some (Session session)) = Some session
session_in (Some (Filtered session)) = None
session_in (Some (Tally tally)) = None
session_in (Some (Scan scan)) = None

-- the session through a filter that it holds
abbrev pub filtered_in : Option Held → Option UnitFilterSession
filtered_in None = None
filtered_in (Some (Properties files)) = None
filtered_in (Some (Table table)) = None
filtered_in (Some (Session session)) = None
filtered_in (Some (Filtered session)) = Some session
filtered_in (Some (Tally tally)) = None
filtered_in (Some (Scan scan)) = None

-- the table that it holds
abbrev pub table_in : Option Held → Option BreakTable
table_in None = None
table_in (Some (Properties files)) = None
table_in (Some (Table table)) = Some table
table_in (Some (Session session)) = None
table_in (Some (Filtered session)) = None
table_in (Some (Tally tally)) = None
table_in (Some (Scan scan)) = None

-- the property files that it holds
abbrev pub files_in : Option Held → Option (List File)
files_in None = None
files_in (Some (Properties files)) = Some files
files_in (Some (Table table)) = None
files_in (Some (Session session)) = None
files_in (Some (Filtered session)) = None
files_in (Some (Tally tally)) = None
files_in (Some (Scan scan)) = None

-- the tally that it holds
abbrev pub tally_in : Option Held → Option UnitTally
tally_in None = None
tally_in (Some (Properties files)) = None
tally_in (Some (Table table)) = None
tally_in (Some (Session session)) = None
tally_in (Some (Filtered session)) = None
tally_in (Some (Tally tally)) = Some tally
tally_in (Some (Scan scan)) = None

-- the scan of a text that is fed
abbrev pub scan_in : Option Held → Option ScanDesk
scan_in None = None
scan_in (Some (Properties files)) = None
scan_in (Some (Table table)) = None
scan_in (Some (Session session)) = None
scan_in (Some (Filtered session)) = None
scan_in (Some (Tally tally)) = None
scan_in (Some (Scan scan)) = Some scan

-- the code for a call that asks for a session, where it holds none that the call serves: of another code where that one has a filter
abbrev pub unserved_code : Option Held → ℕ
unserved_code None = 3
unserved_code (Some (Properties files)) = 3
unserved_code (Some (Table table)) = 3
unserved_code (Some (Session session)) = 3
unserved_code (Some (Filtered session)) = 14
unserved_code (Some (Tally tally)) = 3
unserved_code (Some (Scan scan)) = 3

-- it holds something
abbrev pub HoldsSomething : Option Held → Type 0
HoldsSomething None = ⊥
HoldsSomething (Some held) = Unit {0}

-- a session that was read: its unit, table, text and cursor are as before, and only what is kept of its boundaries may differ
pub record StaysThere (old new : UnitSession) : Type 0 where
  pub unit_is : new.unit ≡ old.unit
  pub table_is : new.asked.table ≡ old.asked.table
  pub state_is : new.asked.state ≡ old.asked.state
