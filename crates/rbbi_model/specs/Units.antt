-- Places and lengths in characters, in UTF-8 bytes or in UTF-16 units.
use Rattle.std.specs.Prelude.{ℕ, List, map, take, sum_by, if◌then◌else◌, nat_lt}
use Rattle.rbbi_model.specs.declared.unit.Unit.{Unit as TextUnit}
use Rattle.rbbi_model.specs.declared.unit.Unit.TheVariants.{Chars, Utf8, Utf16}
use Rattle.rbbi_model.specs.Boundaries.{Boundary}

-- how much of the unit the character takes
abbrev pub size_of : TextUnit → ℕ → ℕ
size_of Chars c = 1
size_of Utf8 c = if nat_lt c 0x80 then 1 else (if nat_lt c 0x800 then 2 else (if nat_lt c 0x10000 then 3 else 4))
size_of Utf16 c = if nat_lt c 0x10000 then 1 else 2

-- where the place lies in the unit: the sum of the sizes of the characters before it
abbrev pub offset_of : TextUnit → List ℕ → ℕ → ℕ
offset_of unit x i = sum_by (size_of unit) (take i x)

-- the boundaries with their places in the unit
abbrev pub measured : TextUnit → List ℕ → List Boundary → List Boundary
measured unit x boundaries = map (λ boundary. record { at = offset_of unit x boundary.at; statuses = boundary.statuses }) boundaries
