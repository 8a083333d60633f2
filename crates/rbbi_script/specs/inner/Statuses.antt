-- The parts of a list of statuses, as they are appended one after another.
use Rattle.std.specs.Prelude.{ℕ, List, ◌∷◌, decimal}

-- a comma and the status
abbrev pub next_status : ℕ → List ℕ
next_status status = 44 ∷ decimal status
