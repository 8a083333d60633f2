-- Entries that a run shows.
use Rattle.std.specs.Prelude.{◌≡◌, ℕ, List}
use Rattle.rbbi_model.specs.Runs.{Entry, Run, ShowsAfter, ShowsBefore}

-- the run shows the entry to be the first boundary past i
abbrev pub IsShownAfter : Run → ℕ → Entry → Type 0
IsShownAfter run i entry = (shows : ShowsAfter run i entry.at) × (shows.entry ≡ entry)

-- the run shows the entry to be the last boundary before i
abbrev pub IsShownBefore : List ℕ → Run → ℕ → Entry → Type 0
IsShownBefore x run i entry = (shows : ShowsBefore x run i entry.at) × (shows.entry ≡ entry)
