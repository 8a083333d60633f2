-- Faults as they are reported to C.
use Rattle.std.specs.Prelude.{◌≡◌, ℕ, List, length, Option, None, Some}
use Rattle.rbbi_command.specs.declared.refusal.Place.{Place}
use Rattle.rbbi_command.specs.declared.refusal.Place.TheVariants.{Whole, Byte, Row, Within}
use Rattle.rbbi_c.specs.Copying.{IsCopied}
use Rattle.rbbi_c.specs.declared.faults.Fault.{Fault}

-- a fault at a place, whose name has so many bytes; what a place has not is 0, and the byte 4,294,967,295
abbrev pub fault_at : ℕ → Place → Fault
fault_at label Whole = record { label = label; row = 0; column = 0; byte = 4294967295 }
fault_at label (Byte at) = record { label = label; row = 0; column = 0; byte = at }
fault_at label (Row row) = record { label = label; row = row; column = 0; byte = 4294967295 }
fault_at label (Within row column) = record { label = label; row = row; column = column; byte = 4294967295 }

-- the place of a fault of a table file
abbrev pub table_place : Option ℕ → Place
table_place None = Whole
table_place (Some at) = Byte at

-- what C has of a fault: where it stands, and its name
pub record Told : Type 0 where
  pub fault : Fault
  pub name : List ℕ

abbrev pub told : Fault → List ℕ → Told
told fault name = record { fault = fault; name = name }

-- the fault of this name is reported
pub record IsTold (label : List ℕ) (place : Place) (before after : Told) : Type 0 where
  pub fault : after.fault ≡ fault_at (length label) place
  pub name : IsCopied label before.name after.name
