-- Ranges that are added one after another.
use Rattle.std.specs.Prelude.{◌≡◌, ℕ, ◌⊎◌, List, [], ◌∷◌, ◌++◌}
use Rattle.rbbi_model.specs.Tables.{CategoryRange}

-- the last range has the category
abbrev pub EndsIn : List CategoryRange → ℕ → Type 0
EndsIn ranges category = (front : List CategoryRange) × (last : CategoryRange) × (ranges ≡ front ++ last ∷ []) × (last.category ≡ category)

-- the range comes last, unless the last one has its category
abbrev pub AddsRange : List CategoryRange → CategoryRange → List CategoryRange → Type 0
AddsRange old range new = (EndsIn old range.category × (new ≡ old)) ⊎ (¬ EndsIn old range.category × (new ≡ old ++ range ∷ []))
