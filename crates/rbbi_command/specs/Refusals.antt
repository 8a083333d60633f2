-- What ends a run before its output: its exit status and its line.
use Rattle.std.specs.Prelude.{ℕ, List, [], Option, None, Some, codes}
use Rattle.rbbi_model.specs.Lines.{usage_line, unread_line, fault_line, fault_line_at, fault_line_in, fault_line_within, rules_name, table_name, row_of, column_of}
use Rattle.rbbi_command.specs.declared.refusal.Subject.{Subject}
use Rattle.rbbi_command.specs.declared.refusal.Subject.TheVariants.{Rules, OtherRules, Table, File}
use Rattle.rbbi_command.specs.declared.refusal.Place.{Place}
use Rattle.rbbi_command.specs.declared.refusal.Place.TheVariants.{Whole, Byte, Row, Within}
use Rattle.rbbi_command.specs.declared.refusal.Refusal.{Refusal}
use Rattle.rbbi_command.specs.declared.refusal.Refusal.TheVariants.{Usage, Unread, Fault, Memory}

-- a file that is written, and what it holds then
pub record Written : Type 0 where
  pub name : List ℕ
  pub bytes : List ℕ

-- an exit status, all bytes of the output, and the file that is written before, if one is
pub record Outcome : Type 0 where
  pub status : ℕ
  pub bytes : List ℕ
  pub file : Option Written

-- success: these bytes are the output, and no file is written
abbrev pub printed : List ℕ → Outcome
printed bytes = record { status = 0; bytes = bytes; file = None }

-- the line and the column of a place of a text, in characters from 0; without one it is the file as a whole
abbrev pub place_in : List ℕ → Option ℕ → Place
place_in x None = Whole
place_in x (Some place) = Within (row_of x place) (column_of x place)

-- the name under which a file's faults are reported
abbrev pub printed_name : Subject → List ℕ
printed_name Rules = rules_name
printed_name OtherRules = codes "rules2"
printed_name Table = table_name
printed_name (File name) = name

-- the status of a file's faults, one for both rule files
abbrev pub status_of_subject : Subject → ℕ
status_of_subject Table = 4
status_of_subject (File name) = 5
status_of_subject subject = 3

-- a fault of this label of a file, by the name that is printed
abbrev pub told_at : List ℕ → List ℕ → Place → List ℕ
told_at name label Whole = fault_line name label
told_at name label (Byte at) = fault_line_at name label at
told_at name label (Row row) = fault_line_in name row label
told_at name label (Within row column) = fault_line_within name row column label

-- the status of a refusal
abbrev pub status_of : Refusal → ℕ
status_of Usage = 2
status_of (Unread name) = 6
status_of (Fault subject label place) = status_of_subject subject
status_of Memory = 8

-- the line of a refusal; out of memory has none
abbrev pub line_of : Refusal → List ℕ
line_of Usage = usage_line
line_of (Unread name) = unread_line name
line_of (Fault subject label place) = told_at (printed_name subject) label place
line_of Memory = []

-- the outcome of a run that is refused
abbrev pub refused : Refusal → Outcome
refused refusal = record { status = status_of refusal; bytes = line_of refusal; file = None }
