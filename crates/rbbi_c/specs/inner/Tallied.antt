-- A tally with places in a unit, by one that has none.
use Rattle.rbbi_model.specs.declared.unit.Unit.{Unit as TextUnit}
use Rattle.rbbi_tally.specs.Tallies.{Tally}
use Rattle.rbbi_c.specs.Tallying.{UnitTally}

-- a tally with places in the unit
abbrev pub tally_by : TextUnit → Tally → UnitTally
tally_by unit tally = record { unit = unit; table = tally.table; text = tally.text }
