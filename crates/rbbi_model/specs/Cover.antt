-- Lists of boundaries as a text has them.
use Rattle.std.specs.Prelude.{◌≡◌, ℕ, List, [], ◌∷◌, map}
use Rattle.rbbi_model.specs.Lists.{Member, IsRising}
use Rattle.rbbi_model.specs.Boundaries.{Boundary}

-- the places of the boundaries
abbrev pub places : List Boundary → List ℕ
places boundaries = map (λ boundary. boundary.at) boundaries

-- the place is one of the boundaries
abbrev pub IsPlaceOf : List Boundary → ℕ → Type 0
IsPlaceOf boundaries place = Member (places boundaries) place

-- the place of the last boundary, which is the text's length
abbrev pub end_of : List Boundary → ℕ
end_of [] = 0
end_of (boundary ∷ []) = boundary.at
end_of (boundary ∷ next ∷ boundaries) = end_of (next ∷ boundaries)

-- the first boundary is at 0
abbrev pub BeginAtZero : List Boundary → Type 0
BeginAtZero [] = ⊥
BeginAtZero (boundary ∷ boundaries) = boundary.at ≡ 0

-- the boundaries cover a text of this length: they begin with 0, rise, and end with the length
pub record CoverText (n : ℕ) (boundaries : List Boundary) : Type 0 where
  pub begin : BeginAtZero boundaries
  pub rise : IsRising (places boundaries)
  pub reach : end_of boundaries ≡ n
