-- Searches that read the same characters.
use Rattle.std.specs.Prelude.{◌≡◌, ℕ, ◌+◌, ◌-◌, ◌<◌, ◌≤◌, ◌⊎◌, List, length, slice_range}
use Rattle.rbbi_model.specs.Tables.{Table}
use Rattle.rbbi_model.specs.Searches.{search_end, look_end, found}

-- From t on, y has the characters that the search from s in x reads. Where that search reads up to the end of x and would read on,
-- y ends there too.
pub record ReadsAlike (table : Table) (x y : List ℕ) (s t : ℕ) : Type 0 where
  pub within : s < length x
  pub characters : slice_range x s (search_end table x s) ≡ slice_range y t (t + (search_end table x s - s))
  pub end : ((look_end table x s ≤ length x) × (t + (look_end table x s - s) ≤ length y)) ⊎ (length y + s ≡ length x + t)

-- The search from t in y finds what the one from s in x does and looks as far, moved by the distance of the starts.
pub record FindsAlike (table : Table) (x y : List ℕ) (s t : ℕ) : Type 0 where
  pub at : (found table y t).at + s ≡ (found table x s).at + t
  pub list : (found table y t).list ≡ (found table x s).list
  pub look : look_end table y t + s ≡ look_end table x s + t
