-- What an edit changed among the boundaries of a text.
use Rattle.std.specs.Prelude.{◌≡◌, ℕ, ◌+◌, ◌-◌, ◌<◌, ◌≤◌, List, [], ◌∷◌, Option, None, Some, ◌==◌, if◌then◌else◌}
use Rattle.rbbi_model.specs.Boundaries.{Boundary}
use Rattle.rbbi_change.specs.declared.change.Edit.{Edit}
use Rattle.rbbi_change.specs.declared.change.Change.{Change}

-- the statuses of the boundary at a place, or None where there is no boundary
abbrev pub boundary_at : List Boundary → ℕ → Option (List ℕ)
boundary_at [] place = None
boundary_at (boundary ∷ boundaries) place = if boundary.at == place then Some boundary.statuses else boundary_at boundaries place

-- where a place after what is removed lies in the new text
abbrev pub moved : Edit → ℕ → ℕ
moved edit place = place + edit.inserted - edit.removed

-- The edit lies in the range. At each place before it there is a boundary exactly where there was one, with the same statuses, and so
-- there is past it, at the place that the edit moves it to.
pub record StaysOutside (edit : Edit) (old new : List Boundary) (change : Change) : Type 0 where
  pub begins : change.from ≤ edit.at
  pub ends : edit.at + edit.removed ≤ change.old_to
  pub ends_new : change.new_to ≡ moved edit change.old_to
  pub before : (place : ℕ) → place < change.from → boundary_at new place ≡ boundary_at old place
  pub behind : (place : ℕ) → change.old_to < place → boundary_at new (moved edit place) ≡ boundary_at old place

-- the least range of that kind: each other one has it inside
pub record IsLeastChange (edit : Edit) (old new : List Boundary) (change : Change) : Type 0 where
  pub outside : StaysOutside edit old new change
  pub least : (other : Change) → StaysOutside edit old new other → (other.from ≤ change.from) × (change.old_to ≤ other.old_to)
