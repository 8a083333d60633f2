-- Boundaries of a text that searches have come to.
use Rattle.std.specs.Prelude.{◌≡◌, ℕ, ◌<◌, ◌≤◌, Bool, ◌&&◌, ◌⊎◌, List, [], ◌∷◌, length}
use Rattle.std.specs.List.{AllByRecursion}
use Rattle.rbbi_model.specs.Tables.{Table, step, stops}
use Rattle.rbbi_model.specs.SafePairs.{is_safe}
use Rattle.rbbi_model.specs.Searches.{look_end, found}
use Rattle.rbbi_change.specs.declared.reached.Reached.{Reached}

-- the searches from these places lead from one place to another
abbrev pub Lead : Table → List ℕ → ℕ → ℕ → List ℕ → Type 0
Lead table x from to [] = from ≡ to
Lead table x from to (place ∷ places) = (place ≡ from) × (from < length x) × Lead table x (found table x from).at to places

-- the place is a boundary of the text
pub record IsBoundary (table : Table) (x : List ℕ) (place : ℕ) : Type 0 where
  pub before : List ℕ
  pub lead : Lead table x 0 place before
  pub within : place ≤ length x

-- and no search from a boundary before it looks past another place, which it is before, unless it is 0
pub record IsQuiet (table : Table) (x : List ℕ) (at place : ℕ) : Type 0 where
  pub is : IsBoundary table x place
  pub short : AllByRecursion (λ before. look_end table x before ≤ at) is.before
  pub early : (place ≡ 0) ⊎ (place < at)

-- the search from a place finds this boundary
pub record IsNextOf (table : Table) (x : List ℕ) (place : ℕ) (next : Reached) : Type 0 where
  pub at : next.at ≡ (found table x place).at
  pub list : next.list ≡ (found table x place).list
  pub listed : next.list < length table.lists

-- the pair of categories is safe, and a search that begins with it looks no further
abbrev pub ends_all : Table → ℕ → ℕ → Bool
ends_all table here next = is_safe table here next && stops table (step table (step table 1 here) next)
