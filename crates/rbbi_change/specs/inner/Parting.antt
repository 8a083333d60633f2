-- Where old and new boundaries part, and where they meet again.
use Rattle.std.specs.Prelude.{◌≡◌, ℕ, ◌+◌, ◌<◌, ◌≤◌, ◌⊎◌, List, length, Some, None}
use Rattle.rbbi_model.specs.Tables.{Table, statuses_of}
use Rattle.rbbi_model.specs.Searches.{table_boundaries}
use Rattle.rbbi_change.specs.Changes.{boundary_at, moved}
use Rattle.rbbi_change.specs.inner.Reaching.{IsBoundary}
use Rattle.rbbi_change.specs.declared.change.Edit.{Edit}
use Rattle.rbbi_change.specs.declared.reached.Reached.{Reached}
use Rattle.rbbi_change.specs.declared.part.Parting.{Parting}

-- it is a boundary of the text, with the statuses of its list
pub record IsReached (table : Table) (x : List ℕ) (reached : Reached) : Type 0 where
  pub is : IsBoundary table x reached.at
  pub statuses : boundary_at (table_boundaries table x) reached.at ≡ Some (statuses_of table reached.list)
  pub listed : reached.list < length table.lists

-- no boundary lies from one place on, before another
abbrev pub NoneFrom : Table → List ℕ → ℕ → ℕ → Type 0
NoneFrom table x low high = (place : ℕ) → low ≤ place → place < high → boundary_at (table_boundaries table x) place ≡ None

-- the boundaries at a place are the same in both texts
abbrev pub Agree : Table → List ℕ → List ℕ → ℕ → ℕ → Type 0
Agree table x y place other = boundary_at (table_boundaries table y) other ≡ boundary_at (table_boundaries table x) place

-- Before the place where they part, which isn't past the edit, the boundaries are the same. It is the edit's, or they differ there.
-- From the edit on, none has been passed.
pub record ArePartedAt (table : Table) (x y : List ℕ) (at : ℕ) (parting : Parting) : Type 0 where
  pub up_to : parting.from ≤ at
  pub same : (place : ℕ) → place < parting.from → Agree table x y place place
  pub differ : (parting.from ≡ at) ⊎ ¬ Agree table x y parting.from parting.from
  pub old : IsReached table x parting.old
  pub new : IsReached table y parting.new
  pub none_old : NoneFrom table x at parting.old.at
  pub none_new : NoneFrom table y at parting.new.at

-- past this place the boundaries are the same, moved; it is the end of what is removed, or they differ there
pub record IsLastChange (table : Table) (x y : List ℕ) (edit : Edit) (last : ℕ) : Type 0 where
  pub behind : edit.at + edit.removed ≤ last
  pub within : last ≤ length x
  pub same : (place : ℕ) → last < place → Agree table x y place (moved edit place)
  pub differ : (last ≡ edit.at + edit.removed) ⊎ ¬ Agree table x y last (moved edit last)
