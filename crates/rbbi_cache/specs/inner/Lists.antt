-- Lists of runs.
use Rattle.std.specs.Prelude.{◌≡◌, ℕ, ◌≤◌, List, [], ◌∷◌, ◌++◌, length, map}
use Rattle.std.specs.List.{AllByRecursion}
use Rattle.rbbi_model.specs.Lists.{IsRising}
use Rattle.rbbi_model.specs.Runs.{Entry, Run}

-- the run's anchor and entries lie within a text of this length, and its entries rise from the anchor on
pub record IsOrdered (len : ℕ) (run : Run) : Type 0 where
  pub anchor : run.anchor ≤ len
  pub rising : IsRising (map (λ entry. entry.at) run.entries)
  pub within : AllByRecursion (λ entry. entry.at ≤ len) run.entries
  pub behind : AllByRecursion (λ entry. run.anchor ≤ entry.at) run.entries

-- the run with this number is such a one
pub record HasAt (runs : List Run) (k : ℕ) (IsSuch : Run → Type 0) : Type 0 where
  pub before : List Run
  pub run : Run
  pub after : List Run
  pub whole : runs ≡ before ++ run ∷ after
  pub number : length before ≡ k
  pub such : IsSuch run

-- the run's last entry is this one and isn't past i
pub record GoesOnFrom (i : ℕ) (from : Entry) (run : Run) : Type 0 where
  pub front : List Entry
  pub whole : run.entries ≡ front ++ from ∷ []
  pub up_to : from.at ≤ i

-- the entry stands last but one
pub record StandsLastButOne (entries : List Entry) (entry : Entry) : Type 0 where
  pub before : List Entry
  pub last : Entry
  pub whole : entries ≡ before ++ entry ∷ (last ∷ [])
