-- Membership in a list of ranges, as a test that computes.
use Rattle.std.specs.Prelude.{ℕ, Bool, false, ◌&&◌, ◌||◌, nat_le, List, [], ◌∷◌}
use Rattle.rbbi_model.specs.Ranges.{Range}

-- whether the code point lies from one to another, both counted
abbrev pub is_between : ℕ → ℕ → ℕ → Bool
is_between low high c = nat_le low c && nat_le c high

-- whether some range of the list holds the code point
abbrev pub covers : List Range → ℕ → Bool
covers [] c = false
covers (range ∷ ranges) c = is_between range.low range.high c || covers ranges c
