-- The form of a set's list of ranges.
use Rattle.std.specs.Prelude.{ℕ, ◌+◌, ◌≤◌, List, [], ◌∷◌}
use Rattle.rbbi_model.specs.Ranges.{Range}

-- the range has a first code point and a last one, in this order
abbrev pub IsRange : Range → Type 0
IsRange range = (range.low ≤ range.high) × (range.high ≤ 0x10FFFF)

-- the ranges begin at this number or past it, rise, and neither overlap nor touch
abbrev pub AreRisingFrom : ℕ → List Range → Type 0
AreRisingFrom bound [] = Unit {0}
AreRisingFrom bound (range ∷ ranges) =
    (bound ≤ range.low) × (range.low ≤ range.high) × (range.high ≤ 0x10FFFF) × AreRisingFrom (range.high + 2) ranges

-- the ranges rise, and neither overlap nor touch
abbrev pub AreRising : List Range → Type 0
AreRising ranges = AreRisingFrom 0 ranges
