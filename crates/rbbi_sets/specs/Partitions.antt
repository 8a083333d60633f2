-- The partition of the code points by sets.
use Rattle.std.specs.Prelude.{◌≡◌, ◌≤◌, ◌↔◌, ℕ, List, [], ◌∷◌}
use Rattle.std.specs.List.{Contains}
use Rattle.rbbi_model.specs.Ranges.{Range, Has}

-- none of the sets distinguishes the code points
abbrev pub AreTogether : List (List Range) → ℕ → ℕ → Type 0
AreTogether sets c d = (set : List Range) → Contains sets set → Has set c ↔ Has set d

-- The function gives each code point the least one of its class: two code points are in one class exactly where no set distinguishes them.
pub record IsPartitionBy (sets : List (List Range)) (least_of : ℕ → ℕ) : Type 0 where
  pub exact : (c d : ℕ) → c ≤ 0x10FFFF → d ≤ 0x10FFFF → (least_of c ≡ least_of d) ↔ AreTogether sets c d
  pub least : (c : ℕ) → c ≤ 0x10FFFF → least_of c ≤ c
  pub member : (c : ℕ) → c ≤ 0x10FFFF → least_of (least_of c) ≡ least_of c

-- the set of the surrogates
abbrev pub surrogates : List Range
surrogates = record { low = 0xD800; high = 0xDFFF } ∷ []
