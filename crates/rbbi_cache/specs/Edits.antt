-- What an edit of the text leaves of the kept runs.
use Rattle.std.specs.Prelude.{◌≡◌, ℕ, ◌+◌, ◌-◌, ◌<◌, ◌≤◌, Bool, true, false, not, ◌&&◌, ◌||◌, List, [], ◌∷◌, map, length, filter, take, if◌then◌else◌, ◌==◌}
use Rattle.std.specs.Prelude.{nat_lt, nat_le}
use Rattle.rbbi_model.specs.Tables.{Table}
use Rattle.rbbi_model.specs.SafePairs.{is_safe}
use Rattle.rbbi_model.specs.Scripts.{splice}
use Rattle.rbbi_model.specs.Runs.{Entry, Run, category_at}
use Rattle.rbbi_model.specs.Words.{most_characters}
use Rattle.rbbi_cache.specs.Kept.{most_runs, AreTrueRuns}

-- y is x with so many characters from `at` on replaced by so many others
pub record IsSpliced (x y : List ℕ) (at removed inserted : ℕ) : Type 0 where
  pub within : at + removed ≤ length x
  pub characters : List ℕ
  pub many : length characters ≡ inserted
  pub spliced : y ≡ splice x at removed characters

-- how many places after an edit are looked at for a safe pair
abbrev pub pair_places : ℕ
pair_places = 1024

-- a safe pair begins at the place
abbrev pub begins_pair : Table → List ℕ → ℕ → Bool
begins_pair table x p = nat_le (p + 2) (length x) && is_safe table (category_at table x p) (category_at table x (p + 1))

-- the first safe pair from a place on, and not as many places further as are looked at
pub record IsFirstPair (table : Table) (x : List ℕ) (low q : ℕ) : Type 0 where
  pub from : low ≤ q
  pub near : q < low + pair_places
  pub begins : begins_pair table x q ≡ true
  pub none_before : (p : ℕ) → low ≤ p → p < q → begins_pair table x p ≡ false

-- none begins there
abbrev pub HasNoPair : Table → List ℕ → ℕ → Type 0
HasNoPair table x low = (p : ℕ) → low ≤ p → p < low + pair_places → begins_pair table x p ≡ false

-- The left part of a run: the entries found by searches that looked at nothing from the edit on.
abbrev pub left_part : ℕ → Run → Run
left_part at run = record { anchor = run.anchor; entries = filter (λ entry. nat_le entry.reach at) run.entries; leads = run.leads }

-- an entry moved by what an edit before it inserted and removed
abbrev pub moved_entry : ℕ → ℕ → Entry → Entry
moved_entry removed inserted entry =
    record { at = entry.at + inserted - removed; status = entry.status; reach = entry.reach + inserted - removed }

-- The whole run, moved. One that is moved to place 0 leads no longer. Of a run of anchor 0 the entries of its left part aren't
-- repeated, and where it is moved away from 0 those too near to its anchor are left out.
abbrev pub moved_run : ℕ → ℕ → ℕ → Run → Run
moved_run at removed inserted run =
    let anchor : ℕ = run.anchor + inserted - removed in
    if run.anchor == 0
    then record {
      anchor = anchor;
      entries = filter (λ entry. (anchor == 0) || nat_le (anchor + 2) entry.at)
          (map (moved_entry removed inserted) (filter (λ entry. nat_lt at entry.reach) run.entries));
      leads = run.leads;
    }
    else record { anchor = anchor; entries = map (moved_entry removed inserted) run.entries; leads = run.leads && not (anchor == 0) }

-- The entries after the edit, moved, from two characters after a safe pair on; they have the pair as their anchor.
abbrev pub run_behind : ℕ → ℕ → ℕ → ℕ → Run → Run
run_behind at removed inserted q run =
    record {
      anchor = q;
      entries = filter (λ entry. nat_le (q + 2) entry.at) (map (moved_entry removed inserted) (filter (λ entry. nat_lt (at + removed) entry.at) run.entries));
      leads = false;
    }

-- the run's anchor lies after what was removed, and a safe pair of the old text begins there
abbrev pub goes_whole : Table → List ℕ → ℕ → ℕ → Run → Bool
goes_whole table x at removed run = nat_le (at + removed) run.anchor && begins_pair table x run.anchor

-- The right part of a run: the whole of it, moved; or what lies after the first safe pair of the new text after the edit; or nothing, where no pair is near.
pub data IsRightPart (table : Table) (x y : List ℕ) (at removed inserted : ℕ) (run : Run) : Run → Type 0 where
  Whole : goes_whole table x at removed run ≡ true → IsRightPart table x y at removed inserted run (moved_run at removed inserted run)
  Behind : (q : ℕ) → goes_whole table x at removed run ≡ false → IsFirstPair table y (at + inserted) q → IsRightPart table x y at removed inserted run
      (run_behind at removed inserted q run)
  Nothing : goes_whole table x at removed run ≡ false → HasNoPair table y (at + inserted) → IsRightPart table x y at removed inserted run
      (record { anchor = 0; entries = []; leads = false })

-- the run has an entry
abbrev pub has_entries : Run → Bool
has_entries run = not (length run.entries == 0)

-- the parts of the runs: of each its left and then its right part
abbrev pub AreParts : Table → List ℕ → List ℕ → ℕ → ℕ → ℕ → List Run → List Run → Type 0
AreParts table x y at removed inserted [] parts = parts ≡ []
AreParts table x y at removed inserted (run ∷ runs) parts =
    (right : Run) × (rest : List Run) × IsRightPart table x y at removed inserted run right × AreParts table x y at removed inserted runs rest ×
    (parts ≡ left_part at run ∷ right ∷ rest)

-- What is kept after an edit: each run is replaced by its parts; of those that have entries the first 16 are kept.
pub record AreKeptAfter (table : Table) (x y : List ℕ) (at removed inserted : ℕ) (former now : List Run) : Type 0 where
  pub parts : List Run
  pub are_parts : AreParts table x y at removed inserted former parts
  pub now_are : now ≡ take most_runs (filter has_entries parts)

-- The runs were true of a text that became y by the edit.
pub record WereTrue (table : Table) (y : List ℕ) (at removed inserted : ℕ) (runs : List Run) : Type 0 where
  pub text : List ℕ
  pub edited : IsSpliced text y at removed inserted
  pub small : length text ≤ most_characters
  pub are_true : AreTrueRuns table text runs

-- What is kept after the edit, whatever text it was of which the runs were true.
abbrev pub AreKeptAfterAny : Table → List ℕ → ℕ → ℕ → ℕ → List Run → List Run → Type 0
AreKeptAfterAny table y at removed inserted former now =
    (x : List ℕ) → IsSpliced x y at removed inserted → AreTrueRuns table x former → AreKeptAfter table x y at removed inserted former now
