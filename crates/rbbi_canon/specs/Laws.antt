-- Canonical tables and marks.
use Rattle.std.specs.Prelude.{◌≡◌, ◌↔◌}
use Rattle.rbbi_model.specs.Tables.{Table}
use Rattle.rbbi_model.specs.ValidTables.{IsValidTable}
use Rattle.rbbi_model.specs.Canonical.{IsCanonical, HasCanonical, AreMarkedAlike}

-- canonical tables are the same exactly where those that they are made of have the same marks after every text that isn't empty
abbrev pub CanonicalTablesTellMarks : Type 0
CanonicalTablesTellMarks =
    (these those canonical other : Table) → IsValidTable these → IsValidTable those → HasCanonical these → HasCanonical those →
    IsCanonical these canonical → IsCanonical those other → (canonical ≡ other) ↔ AreMarkedAlike these those
