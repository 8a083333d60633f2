-- What was noted of the parts of an expression.
use Rattle.std.specs.Prelude.{Option, List}
use Rattle.rbbi_resolve.specs.declared.fault.Fault.{Fault}
use Rattle.rbbi_resolve.specs.Contexts.{Context}
use Rattle.rbbi_resolve.specs.Parts.{Part}
use Rattle.rbbi_resolve.specs.Faults.{faults_of_parts, noted}

-- the earliest one of what was noted and the faults of parts
abbrev pub noted_parts : Context → Option Fault → List Part → Option Fault
noted_parts context least parts = noted least (faults_of_parts context parts)
