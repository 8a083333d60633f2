-- The parts of a canonical table.
use Rattle.rbbi_model.specs.Tables.{Table}
use Rattle.rbbi_model.specs.ValidTables.{IsValidTable}
use Rattle.rbbi_model.specs.Canonical.{IsCanonical}
use Rattle.rbbi_table.specs.Parts.{AreValidParts}

-- the parts are valid, and the table of them is the canonical one
pub record ArePartsOf (table parts : Table) : Type 0 where
  pub valid : AreValidParts parts
  pub canonical : IsValidTable parts → IsCanonical table parts
