-- What is held of a text that is fed.
use Rattle.std.specs.Prelude.{ℕ, List}
use Rattle.rbbi_model.specs.declared.unit.Unit.{Unit as TextUnit}
use Rattle.rbbi_model.specs.declared.unit.Unit.TheVariants.{Utf8, Utf16}
use Rattle.rbbi_scan.specs.declared.units.Units.{Units}
use Rattle.rbbi_scan.specs.declared.units.Units.TheVariants.{Bytes, Wide}

-- the unit of what is held, and its numbers in order
abbrev pub unit_of : Units → TextUnit
unit_of (Bytes held) = Utf8
unit_of (Wide held) = Utf16

abbrev pub units_of : Units → List ℕ
units_of (Bytes held) = held.items
units_of (Wide held) = held.items
