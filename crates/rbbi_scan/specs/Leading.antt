-- Boundaries that are found one from the other.
use Rattle.std.specs.Prelude.{◌≡◌, ℕ, ◌<◌, ◌≤◌, ◌⊎◌, Bool, List, [], ◌∷◌, length, filter, nat_lt, IsTrue}
use Rattle.rbbi_model.specs.Boundaries.{Boundary}
use Rattle.rbbi_model.specs.Tables.{Table}
use Rattle.rbbi_model.specs.Searches.{look_end, next_boundary}

-- The boundaries that follow a place of the text, one after the other, up to another place. No search reads past the text's last character,
-- but where the text is whole.
abbrev pub Lead : Bool → Table → List ℕ → ℕ → List Boundary → ℕ → Type 0
Lead is_whole table x place [] last = place ≡ last
Lead is_whole table x place (next ∷ others) last =
    (place < length x) × (IsTrue is_whole ⊎ (look_end table x place ≤ length x)) × (next ≡ next_boundary table x place)
    × Lead is_whole table x next.at others last

-- the boundaries past a place
abbrev pub past : ℕ → List Boundary → List Boundary
past place boundaries = filter (λ boundary. nat_lt place boundary.at) boundaries
