-- Sets of ranges that are the values of set expressions.
use Rattle.std.specs.Prelude.{ℕ, ◌↔◌, Option, Some, None, List}
use Rattle.rbbi_model.specs.Ranges.{Range, Has}
use Rattle.rbbi_model.specs.SetTrees as model
use Rattle.rbbi_sets.specs.Rising.{AreRising}
use Rattle.rbbi_props.specs.Rows.{File}
use Rattle.rbbi_resolve.specs.SetValues.{HasProperty}

-- the ranges rise, and have the members of the set
pub record HasMembers (files : List File) (tree : model.SetTree) (set : List Range) : Type 0 where
  pub rising : AreRising set
  pub members : (c : ℕ) → Has set c ↔ model.InSet (HasProperty files) tree c

abbrev pub IsValue : List File → Option model.SetTree → Option (List Range) → Type 0
IsValue files None None = Unit {0}
IsValue files None (Some set) = ⊥
IsValue files (Some tree) None = ⊥
IsValue files (Some tree) (Some set) = HasMembers files tree set
