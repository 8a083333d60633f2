-- The parts that an edit leaves of a run, as functions of the first safe pair after the edit.
use Rattle.std.specs.Prelude.{◌≡◌, ℕ, ◌+◌, ◌<◌, ◌≤◌, ◌⊎◌, Bool, true, false, not, ◌&&◌, ◌||◌, List, [], ◌∷◌, length, Option, Some, None}
use Rattle.std.specs.Prelude.{if◌then◌else◌, ◌==◌, nat_le}
use Rattle.std.specs.List.{AllByRecursion}
use Rattle.rbbi_model.specs.Words.{most_characters}
use Rattle.rbbi_model.specs.Runs.{Entry, Run, ReachesRise}
use Rattle.rbbi_cache.specs.inner.Lists.{IsOrdered}
use Rattle.rbbi_cache.specs.Edits.{left_part, moved_run, run_behind, has_entries}

-- the entry lies so far after the start that it can be moved
abbrev pub CanMove : ℕ → Entry → Type 0
CanMove removed entry = (removed ≤ entry.at) × (entry.at ≤ entry.reach) × (entry.reach ≤ most_characters + 1)

-- the entry lies after its run's anchor, or that is 0, and no farther than it reaches
abbrev pub IsPlaced : ℕ → Entry → Type 0
IsPlaced anchor entry = ((anchor ≡ 0) ⊎ (anchor < entry.at)) × (entry.at ≤ entry.reach) × (entry.reach ≤ most_characters + 1)

-- what is known of a true run without its text
pub record IsMovable (run : Run) : Type 0 where
  pub ordered : IsOrdered most_characters run
  pub reaches_rise : ReachesRise run.entries
  pub few : length run.entries ≤ 256
  pub lie : AllByRecursion (IsPlaced run.anchor) run.entries

-- the first safe pair begins at the place
abbrev pub is_found_at : Option ℕ → ℕ → Bool
is_found_at None place = false
is_found_at (Some q) place = q == place

-- The run goes whole: its anchor lies after what was removed, and a safe pair begins there (at 0 it is seen in the new text).
abbrev pub moves_whole : ℕ → ℕ → ℕ → Option ℕ → Run → Bool
moves_whole at removed inserted pair run = nat_le (at + removed) run.anchor && (not (run.anchor == 0) || is_found_at pair (at + inserted))

-- the entries after the pair, or none
abbrev pub part_behind : ℕ → ℕ → ℕ → Option ℕ → Run → Run
part_behind at removed inserted None run = record { anchor = 0; entries = []; leads = false }
part_behind at removed inserted (Some q) run = run_behind at removed inserted q run

-- the right part
abbrev pub right_part : ℕ → ℕ → ℕ → Option ℕ → Run → Run
right_part at removed inserted pair run =
    if moves_whole at removed inserted pair run then moved_run at removed inserted run else part_behind at removed inserted pair run

-- the edit leaves the run as it is: its left part is the whole run, and its right part has no entry
pub record Stays (at removed : ℕ) (run : Run) : Type 0 where
  pub some : has_entries run ≡ true
  pub left : left_part at run ≡ run
  pub right : (inserted : ℕ) (pair : Option ℕ) → has_entries (right_part at removed inserted pair run) ≡ false

-- the edit leaves the run as it is, which lies after it: it has no left part, and its right part is the whole run
pub record StaysBehind (at removed inserted : ℕ) (run : Run) : Type 0 where
  pub some : has_entries run ≡ true
  pub left : has_entries (left_part at run) ≡ false
  pub right : (pair : Option ℕ) → right_part at removed inserted pair run ≡ run

-- of each run its left and then its right part
abbrev pub all_parts : ℕ → ℕ → ℕ → Option ℕ → List Run → List Run
all_parts at removed inserted pair [] = []
all_parts at removed inserted pair (run ∷ runs) =
    left_part at run ∷ right_part at removed inserted pair run ∷ all_parts at removed inserted pair runs
