-- What follows the place in the line of a boundary.
use Rattle.std.specs.Prelude.{ℕ, List, [], ◌∷◌, ◌++◌}
use Rattle.rbbi_model.specs.Lines.{joined_statuses}

-- a space, the statuses and the end of the line
abbrev pub line_end : List ℕ → List ℕ
line_end statuses = 32 ∷ (joined_statuses statuses ++ 10 ∷ [])
