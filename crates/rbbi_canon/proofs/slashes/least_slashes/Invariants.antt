use Rattle.std.proofs.Common.{◌<◌, ◌≤◌, ℕ, get_or}
use Rattle.rbbi_model.specs.Tables.{empty_head}
use Rattle.rbbi_canon.specs.inner.Slashes.{Allows, AllowsAll}
use Rattle.rbbi_canon.proofs.slashes.least_slashes.Given as goal

-- the least number for the rows so far
abbrev pub invariant-loop-head : goal.invariant-loop-head
invariant-loop-head l =
    ((row : ℕ) → row < l.head-index → Allows l.count (get_or l.heads row empty_head)) × ((k : ℕ) → AllowsAll k l.heads → l.count ≤ k)
