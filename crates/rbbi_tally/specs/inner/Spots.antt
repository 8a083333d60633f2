-- The first segment whose search looks past a place.
use Rattle.std.specs.Prelude.{ℕ, ◌<◌, ◌≤◌, List, [], ◌∷◌}
use Rattle.std.specs.List.{AllByRecursion}
use Rattle.rbbi_tally.specs.inner.Segments.{Segment}

-- the search of the first segment looks past the place, where there is one
abbrev pub LooksPast : ℕ → List Segment → Type 0
LooksPast place [] = Unit {0}
LooksPast place (segment ∷ segments) = place < segment.look

-- no search of the segments before looks past the place, and the one of the first after them does
pub record IsFirstReaching (place : ℕ) (before after : List Segment) : Type 0 where
  pub short : AllByRecursion (λ segment. segment.look ≤ place) before
  pub far : LooksPast place after
