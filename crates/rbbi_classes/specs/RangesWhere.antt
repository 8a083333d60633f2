-- The ranges of the code points that pass a test.
use Rattle.std.specs.Prelude.{ℕ, zero, suc, ◌+◌, Bool, true, false, nat_eq, List, [], ◌∷◌, if◌then◌else◌}
use Rattle.rbbi_model.specs.Ranges.{Range}

-- the range from one code point to another, both counted
abbrev pub range_between : ℕ → ℕ → Range
range_between low high = record { low = low; high = high }

-- a code point before ranges: it lengthens the first where it touches it
abbrev pub with_first : ℕ → List Range → List Range
with_first c [] = range_between c c ∷ []
with_first c (range ∷ ranges) = if nat_eq range.low (c + 1) then range_between c range.high ∷ ranges else range_between c c ∷ range ∷ ranges

-- the same, where the code point passes
abbrev pub with_code_point : Bool → ℕ → List Range → List Range
with_code_point true c ranges = with_first c ranges
with_code_point false c ranges = ranges

-- the ranges of those that pass, of so many code points from one on
unfoldable pub ranges_where_from : (ℕ → Bool) → ℕ → ℕ → List Range
ranges_where_from test c zero = []
ranges_where_from test c (suc n) = with_code_point (test c) c (ranges_where_from test (c + 1) n)

-- the ranges of all code points that pass: they rise, and neither overlap nor touch
abbrev pub ranges_where : (ℕ → Bool) → List Range
ranges_where test = ranges_where_from test 0 0x110000
