-- What the calls of a cache leave of the runs that it keeps.
use Rattle.std.specs.Prelude.{◌≡◌, ℕ, ◌+◌, ◌<◌, max, ◌⊎◌, List, [], ◌∷◌, ◌++◌, length, drop, Some, IsTrue, Contains}
use Rattle.std.specs.List.{AllByRecursion}
use Rattle.rbbi_model.specs.Tables.{Table}
use Rattle.rbbi_model.specs.Boundaries.{Boundary}
use Rattle.rbbi_model.specs.Searches.{fresh, table_boundaries}
use Rattle.rbbi_model.specs.Answers.{first_after, last_before}
use Rattle.rbbi_model.specs.Runs.{Entry, Run, boundary_of, AreConsecutive, farthest_look, IsTrueRun}
use Rattle.rbbi_cache.specs.Shown.{IsShownBefore}

-- what a cache keeps: its runs, the most recently used first, and for how many look-ahead rules it is made
pub record KeptRuns : Type 0 where
  pub runs : List Run
  pub slashes : ℕ

-- the most runs that are kept
abbrev pub most_runs : ℕ
most_runs = 16

-- each of the runs is true of the text
abbrev pub AreTrueRuns : Table → List ℕ → List Run → Type 0
AreTrueRuns table x runs = AllByRecursion (IsTrueRun table x) runs

-- each of the entries is one of the others, with its statuses and its reach
abbrev pub AreAmong : List Entry → List Entry → Type 0
AreAmong entries others = AllByRecursion (Contains others) entries

-- The earlier run is extended by the later one: that has its anchor, has all its entries with their reaches, and leads where it led. So a
-- run is extended by itself. One that was cut has let go of entries, and a run that has these isn't extended by it.
pub record IsExtendedBy (earlier later : Run) : Type 0 where
  pub anchor : later.anchor ≡ earlier.anchor
  pub entries : AreAmong earlier.entries later.entries
  pub leads : IsTrue earlier.leads → IsTrue later.leads

-- none of the runs is extended by the first
abbrev pub NoneIsExtended : Run → List Run → Type 0
NoneIsExtended first runs = AllByRecursion (λ run. ¬ IsExtendedBy run first) runs

-- What is kept after the first run is what was kept before, but for at most one run that is missing: one that the first run extends
-- (a run that is only used is extended by no entry), or, where 16 were kept and none is extended, the last. None is missing where none
-- is extended and there was room.
pub data AreLeft (first : Run) : List Run → List Run → Type 0 where
  Added : (runs : List Run) → length runs < most_runs → NoneIsExtended first runs → AreLeft first runs runs
  Extended : (before after : List Run) (missing : Run) → IsExtendedBy missing first → AreLeft first (before ++ missing ∷ after) (before ++ after)
  Dropped : (before : List Run) (missing : Run) → length before + 1 ≡ most_runs → NoneIsExtended first (before ++ missing ∷ []) →
      AreLeft first (before ++ missing ∷ []) before

-- Each entry has the least reach that is allowed after one that reaches so far: as far as that one, and as the searches from the anchor up to the entry look.
abbrev pub HaveLeastReaches : Table → List ℕ → ℕ → ℕ → List Entry → Type 0
HaveLeastReaches table x anchor reach [] = Unit {0}
HaveLeastReaches table x anchor reach (entry ∷ entries) =
    (entry.reach ≡ max reach (farthest_look table x anchor entry.at)) × HaveLeastReaches table x anchor entry.reach entries

-- the reach of the last entry, or 0 where there is none
abbrev pub last_reach : List Entry → ℕ
last_reach [] = 0
last_reach (entry ∷ []) = entry.reach
last_reach (entry ∷ next ∷ entries) = last_reach (next ∷ entries)

-- the entries end one of the former runs of this anchor
pub record EndFormerRun (former : List Run) (anchor : ℕ) (entries : List Entry) : Type 0 where
  pub earlier : List Run
  pub run : Run
  pub later : List Run
  pub kept : former ≡ earlier ++ run ∷ later
  pub same : run.anchor ≡ anchor
  pub before : List Entry
  pub whole : run.entries ≡ before ++ entries

-- The entries of the run are the last of those with which a former run of its anchor ended (or none) and of those that were found
-- right after them, each of which has the least reach after the one before it.
pub record HasLeastReaches (table : Table) (x : List ℕ) (former : List Run) (run : Run) : Type 0 where
  pub known : List Entry
  pub found : List Entry
  pub are_known : (known ≡ []) ⊎ EndFormerRun former run.anchor known
  pub consecutive : AreConsecutive table (fresh table x run.anchor) (known ++ found)
  pub least : HaveLeastReaches table x run.anchor (last_reach known) found
  pub cut : ℕ
  pub are_last : run.entries ≡ drop cut (known ++ found)

-- What is kept after an answer: a first run that shows it, whose new entries have the least reaches, and what is left of the runs that were kept before.
pub record Keeps (table : Table) (x : List ℕ) (Shows : Run → Type 0) (former now : List Run) : Type 0 where
  pub first : Run
  pub rest : List Run
  pub are : now ≡ first ∷ rest
  pub shows : Shows first
  pub reaches : HasLeastReaches table x former first
  pub left : AreLeft first former rest

-- What is kept after the last boundary before a place was answered: as after each answer, but that the runs may stay as they were where it is 0.
abbrev pub KeepsBack : Table → List ℕ → ℕ → Entry → List Run → List Run → Type 0
KeepsBack table x i entry former now =
    Keeps table x (λ run. IsShownBefore x run i entry) former now ⊎ ((entry.at ≡ 0) × (now ≡ former))

-- the entry is one of the boundaries, with its statuses
pub record IsBoundaryOf (table : Table) (x : List ℕ) (entry : Entry) : Type 0 where
  pub before : List Boundary
  pub after : List Boundary
  pub whole : table_boundaries table x ≡ before ++ boundary_of table entry ∷ after

-- the entry is the first boundary past i
pub record IsFirstAfter (table : Table) (x : List ℕ) (i : ℕ) (entry : Entry) : Type 0 where
  pub first : first_after (table_boundaries table x) i ≡ Some entry.at
  pub boundary : IsBoundaryOf table x entry

-- the entry is the last boundary before i
pub record IsLastBefore (table : Table) (x : List ℕ) (i : ℕ) (entry : Entry) : Type 0 where
  pub last : last_before (table_boundaries table x) i ≡ Some entry.at
  pub boundary : IsBoundaryOf table x entry

-- some kept run is such a one
abbrev pub SomeRun : (Run → Type 0) → List Run → Type 0
SomeRun IsSuch [] = ⊥
SomeRun IsSuch (run ∷ runs) = IsSuch run ⊎ SomeRun IsSuch runs
