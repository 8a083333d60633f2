-- Fresh searches on their way: what they have found from an anchor, and what of it a run keeps.
use Rattle.std.specs.Prelude.{◌≡◌, ℕ, ◌+◌, ◌<◌, ◌≤◌, max, ◌⊎◌, ◌↔◌, List, [], ◌∷◌, ◌++◌, length, map, drop, IsTrue, sum_by}
use Rattle.std.specs.List.{AllByRecursion}
use Rattle.rbbi_model.specs.Boundaries.{Boundary}
use Rattle.rbbi_model.specs.Tables.{Table}
use Rattle.rbbi_model.specs.Searches.{found, look_end, next_boundary, follow_by, fresh}
use Rattle.rbbi_model.specs.Runs.{Entry, Run, low, boundary_of, farthest_look, ReachesRise}
use Rattle.rbbi_model.specs.Costs.{characters_read}
use Rattle.rbbi_cache.specs.Kept.{HaveLeastReaches, last_reach}

-- the searches from the anchor have done these members and come to this one
pub record Reached (table : Table) (x : List ℕ) (p : ℕ) (done : List Boundary) (here : Boundary) : Type 0 where
  pub most : ℕ
  pub whole : fresh table x p ≡ done ++ here ∷ follow_by (next_boundary table x) (length x) most here
  pub enough : length x ≤ here.at + most

-- What searches have found: members that are done, those that aren't entries, the entry from which they went on (or none), new entries, and their place.
pub record Scan : Type 0 where
  pub done : List Boundary
  pub skipped : List Boundary
  pub known : List Entry
  pub found : List Entry
  pub here : Entry

-- there is no entry, or this is the last
abbrev pub EndWith : List Entry → Entry → Type 0
EndWith entries here = (entries ≡ []) ⊎ ((front : List Entry) × (entries ≡ front ++ here ∷ []))

-- The searches from the anchor p, each from a place not past i, have found this. The run keeps the last of the entries, and leads while it keeps all.
pub record IsScan (table : Table) (x : List ℕ) (p i : ℕ) (scan : Scan) (run : Run) : Type 0 where
  pub reached : Reached table x p scan.done (boundary_of table scan.here)
  pub up_to : AllByRecursion (λ b. b.at ≤ i) scan.done
  pub within : scan.here.at ≤ length x
  pub whole : scan.done ++ boundary_of table scan.here ∷ [] ≡ scan.skipped ++ map (boundary_of table) (scan.known ++ scan.found)
  pub last : EndWith (scan.known ++ scan.found) scan.here
  pub places : AllByRecursion (λ e. (p ≡ 0) ⊎ (p + 2 ≤ e.at)) (scan.known ++ scan.found)
  pub none : scan.known ++ scan.found ≡ [] → (scan.here.at < low p) × (scan.here.reach ≡ farthest_look table x p scan.here.at)
  pub skipped_low : scan.known ≡ [] → AllByRecursion (λ b. b.at < low p) scan.skipped
  pub enough : AllByRecursion (λ e. farthest_look table x p e.at ≤ e.reach) (scan.known ++ scan.found)
  pub here_enough : farthest_look table x p scan.here.at ≤ scan.here.reach
  pub reach_within : scan.here.reach ≤ length x + 1
  pub reaches_within : AllByRecursion (λ e. e.reach ≤ length x + 1) (scan.known ++ scan.found)
  pub rise : ReachesRise (scan.known ++ scan.found)
  pub least : HaveLeastReaches table x p (last_reach scan.known) scan.found
  pub anchor : run.anchor ≡ p
  pub cut : ℕ
  pub cut_within : cut ≤ length (scan.known ++ scan.found)
  pub entries : run.entries ≡ drop cut (scan.known ++ scan.found)
  pub enough_left : (cut ≡ 0) ⊎ (2 ≤ length run.entries)
  pub few : length run.entries ≤ 256
  pub leads : IsTrue run.leads ↔ (cut ≡ 0)

-- the next member as an entry: it reaches as far as the one before, and as the search from there looks
pub record IsNextEntry (table : Table) (x : List ℕ) (here next : Entry) : Type 0 where
  pub at : next.at ≡ (found table x here.at).at
  pub status : next.status ≡ (found table x here.at).list
  pub reach : next.reach ≡ max here.reach (look_end table x here.at)

-- A scan has begun with this run and come to this entry.
pub record HasBegun (table : Table) (x : List ℕ) (p i : ℕ) (here : Entry) (run : Run) : Type 0 where
  pub scan : Scan
  pub is : IsScan table x p i scan run
  pub here_is : scan.here ≡ here

-- The scan went on from where it began, and a step was counted for each character that its searches read.
pub record HasGoneOn (table : Table) (x : List ℕ) (p i : ℕ) (start : Scan) (here : Entry) (run : Run) (before now : ℕ) : Type 0 where
  pub scan : Scan
  pub is : IsScan table x p i scan run
  pub here_is : scan.here ≡ here
  pub known : scan.known ≡ start.known
  pub searched : List Boundary
  pub done : scan.done ≡ start.done ++ searched
  pub read : now ≡ before + sum_by (λ b. characters_read table x b.at) searched

-- From each way in which it may have begun the scan went on.
abbrev pub ContinuesScan : Table → List ℕ → ℕ → ℕ → Entry → Run → Entry → Run → ℕ → ℕ → Type 0
ContinuesScan table x p i from first here run before now =
    (start : Scan) → IsScan table x p i start first → start.here ≡ from → HasGoneOn table x p i start here run before now
