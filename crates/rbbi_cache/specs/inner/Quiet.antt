-- Places past which, or before which, no run but the first can show a boundary.
use Rattle.std.specs.Prelude.{ℕ, ◌<◌, ◌≤◌, ◌⊎◌, List, drop}
use Rattle.std.specs.List.{AllByRecursion}
use Rattle.rbbi_model.specs.Runs.{Run, ShowsAfter}

-- at no place from the one up to before the other does the run show the first boundary past it
abbrev pub IsQuiet : ℕ → ℕ → Run → Type 0
IsQuiet from to run = (i : ℕ) → from ≤ i → i < to → (a : ℕ) → ShowsAfter run i a → ⊥

-- nor does any run but the first
abbrev pub AreQuiet : ℕ → ℕ → List Run → Type 0
AreQuiet from to runs = AllByRecursion (IsQuiet from to) (drop 1 runs)

-- the run's entries lie up to the one place, or from the other on
abbrev pub IsApart : ℕ → ℕ → Run → Type 0
IsApart from to run = AllByRecursion (λ entry. entry.at ≤ from) run.entries ⊎ AllByRecursion (λ entry. to ≤ entry.at) run.entries

-- so do those of each run but the first
abbrev pub AreApart : ℕ → ℕ → List Run → Type 0
AreApart from to runs = AllByRecursion (IsApart from to) (drop 1 runs)

-- the run's entries lie past the one place and before the other
abbrev pub LiesBetween : ℕ → ℕ → Run → Type 0
LiesBetween from to run = AllByRecursion (λ entry. from < entry.at) run.entries × AllByRecursion (λ entry. entry.at < to) run.entries
