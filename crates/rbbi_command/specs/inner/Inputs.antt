-- Which files are kept with their names.
use Rattle.rbbi_command.specs.declared.files.Role.{Role}
use Rattle.rbbi_command.specs.declared.files.Role.TheVariants as role

-- faults of a file in this role are reported under its name
abbrev pub IsNamed : Role → Type 0
IsNamed role.Filter = Unit {0}
IsNamed role.Text = Unit {0}
IsNamed role.Script = Unit {0}
IsNamed role.Tests = Unit {0}
IsNamed role = ⊥
