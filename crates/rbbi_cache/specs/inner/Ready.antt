-- Runs that are ready to be kept first.
use Rattle.std.specs.Prelude.{◌≡◌, ℕ, ◌<◌, ◌≤◌, ◌⊎◌, Bool, true, false, IsTrue, List, ◌∷◌, ◌++◌}
use Rattle.rbbi_model.specs.Tables.{Table}
use Rattle.rbbi_model.specs.ValidTables.{IsValidTable}
use Rattle.std.specs.List.{AllByRecursion}
use Rattle.rbbi_model.specs.Searches.{fresh}
use Rattle.rbbi_model.specs.Runs.{Entry, Run, low, IsAnchor, IsTrueRun}
use Rattle.rbbi_cache.specs.Kept.{HasLeastReaches, IsExtendedBy, Keeps, AreTrueRuns}
use Rattle.rbbi_cache.specs.Shown.{IsShownAfter, IsShownBefore}

-- The run is true, shows the entry to be the first boundary past i, and its new entries have the least reaches.
pub record IsReadyAfter (table : Table) (x : List ℕ) (i : ℕ) (former : List Run) (entry : Entry) (run : Run) : Type 0 where
  pub is_true : IsTrueRun table x run
  pub shows : IsShownAfter run i entry
  pub reaches : HasLeastReaches table x former run

-- the run is one of those
pub record IsAmong (runs : List Run) (run : Run) : Type 0 where
  pub before : List Run
  pub after : List Run
  pub whole : runs ≡ before ++ run ∷ after

-- The kept run was extended and is ready, or it is as before and another one is ready.
abbrev pub GoesOnAs : Table → List ℕ → ℕ → Run → Entry → Bool → Run → Run → Type 0
GoesOnAs table x i former entry true run spare =
    IsExtendedBy former run × ((kept : List Run) → IsAmong kept former → IsReadyAfter table x i kept entry run)
GoesOnAs table x i former entry false run spare =
    (run ≡ former) × ((kept : List Run) → IsAmong kept former → IsReadyAfter table x i kept entry spare)

-- What is kept is true, and its first run shows the answer.
abbrev pub KeepsTrue : Table → List ℕ → (Run → Type 0) → List Run → List Run → Type 0
KeepsTrue table x Shows former now = Keeps table x Shows former now × AreTrueRuns table x now

-- The run is true, shows the entry to be the last boundary before i, and its new entries have the least reaches.
pub record IsReadyBefore (table : Table) (x : List ℕ) (i : ℕ) (former : List Run) (entry : Entry) (run : Run) : Type 0 where
  pub is_true : IsTrueRun table x run
  pub shows : IsShownBefore x run i entry
  pub reaches : HasLeastReaches table x former run

-- The run between the others has gone on, or is as before and another one is ready.
pub record GoesOnAt (table : Table) (x : List ℕ) (i : ℕ) (before : List Run) (former : Run) (after : List Run) (entry : Entry) (is_kept : Bool) (now : List
    Run) (spare : Run) : Type 0 where
  pub run : Run
  pub whole : now ≡ before ++ run ∷ after
  pub gone_on : GoesOnAs table x i former entry is_kept run spare

-- From the anchor nothing is found between its low place and i.
abbrev pub HasNoneBefore : Table → List ℕ → ℕ → ℕ → Type 0
HasNoneBefore table x p i = AllByRecursion (λ member. low p ≤ member.at → i ≤ member.at) (fresh table x p)

-- No anchor from the floor on, except 0, finds anything between its low place and i.
abbrev pub IsFloor : Table → List ℕ → ℕ → ℕ → Type 0
IsFloor table x floor i = (q : ℕ) → IsAnchor table x q → floor ≤ q → 0 < q → HasNoneBefore table x q i

-- in each text of which the runs are true, the place is a floor
abbrev pub IsFloorFor : List Run → ℕ → ℕ → Type 0
IsFloorFor runs i floor = (table : Table) → IsValidTable table → (x : List ℕ) → AreTrueRuns table x runs → IsFloor table x floor i

-- the run leads, and its first entry lies at i
pub record LeadsTo (run : Run) (i : ℕ) : Type 0 where
  pub leads : IsTrue run.leads
  pub first : Entry
  pub rest : List Entry
  pub whole : run.entries ≡ first ∷ rest
  pub at : first.at ≡ i

-- the place is i, or the anchor of a run that leads to i
abbrev pub IsFloorOf : Run → ℕ → ℕ → Type 0
IsFloorOf run i floor = (floor ≡ i) ⊎ ((floor ≡ run.anchor) × LeadsTo run i)
