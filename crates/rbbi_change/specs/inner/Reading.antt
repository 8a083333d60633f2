-- What the searches of both texts read.
use Rattle.std.specs.Prelude.{◌≡◌, ℕ, ◌+◌, ◌≤◌, true, List, sum_by}
use Rattle.rbbi_model.specs.Tables.{Table}
use Rattle.rbbi_model.specs.Searches.{table_boundaries}
use Rattle.rbbi_model.specs.Answers.{is_place_of}
use Rattle.rbbi_model.specs.Costs.{characters_read}
use Rattle.rbbi_change.specs.Changes.{moved}
use Rattle.rbbi_change.specs.inner.Reaching.{Lead}
use Rattle.rbbi_change.specs.declared.change.Edit.{Edit}
use Rattle.rbbi_change.specs.declared.part.Parting.{Parting}

-- the searches of both texts lead from one place to another, and steps rise by what they read
pub record AreSearched (table : Table) (x y : List ℕ) (from to from' to' before after : ℕ) : Type 0 where
  pub old : List ℕ
  pub new : List ℕ
  pub lead_old : Lead table x from to old
  pub lead_new : Lead table y from' to' new
  pub read : after ≡ before + sum_by (characters_read table x) old + sum_by (characters_read table y) new

-- a boundary that isn't before the end of what was removed, and that is one of the new text where the edit moves it
pub record AreMet (table : Table) (x y : List ℕ) (edit : Edit) (place : ℕ) : Type 0 where
  pub behind : edit.at + edit.removed ≤ place
  pub old : is_place_of (table_boundaries table x) place ≡ true
  pub new : is_place_of (table_boundaries table y) (moved edit place) ≡ true

-- the texts were searched from where they part up to the first of these
pub record HaveMet (table : Table) (x y : List ℕ) (edit : Edit) (parting : Parting) (before after : ℕ) : Type 0 where
  pub place : ℕ
  pub met : AreMet table x y edit place
  pub first : (other : ℕ) → AreMet table x y edit other → place ≤ other
  pub searched : AreSearched table x y parting.old.at place parting.new.at (moved edit place) before after
