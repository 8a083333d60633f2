-- The law by which each table that is compiled from lawful rules meets what is asked of a table of which a canonical one is made.
use Rattle.std.specs.Prelude.{List}
use Rattle.rbbi_model.specs.Rules.{Rule, AreLawful}
use Rattle.rbbi_model.specs.Tables.{Table}
use Rattle.rbbi_model.specs.Compiled.{IsCompiled}
use Rattle.rbbi_model.specs.Canonical.{HasCanonical}

abbrev pub CompiledTablesHaveCanonical : Type 0
CompiledTablesHaveCanonical = (table : Table) (rules : List Rule) → AreLawful rules → IsCompiled table rules → HasCanonical table
