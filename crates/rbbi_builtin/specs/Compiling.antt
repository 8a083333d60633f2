-- Compiling rules over property files and what is built in.
use Rattle.std.specs.Prelude.{ℕ, Bool, List}
use Rattle.rbbi_model.specs.Tables.{Table}
use Rattle.rbbi_props.specs.Rows.{File}
use Rattle.rbbi_compile.specs.declared.error.CompileErr.{CompileErr}
use Rattle.rbbi_compile.specs.Tables.{CompilesTo, HasFault}
use Rattle.rbbi_builtin.specs.Filling.{IsFilled}

-- the table is compiled from the text with the files, and with what is built in after them
abbrev pub CompilesOver : List File → Bool → List ℕ → Table → Type 0
CompilesOver files ignored x table = (all : List File) × IsFilled x files all × CompilesTo all ignored x table

-- with these files the text has no table, and this is its first fault
abbrev pub HasFaultOver : List File → Bool → List ℕ → CompileErr → Type 0
HasFaultOver files ignored x e = (all : List File) × IsFilled x files all × HasFault all ignored x e
