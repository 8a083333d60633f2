-- Characters and ranges that follow one another in a set.
use Rattle.std.specs.Prelude.{◌≡◌, ℕ, ◌≤◌, ◌↔◌, ◌⊎◌, IfSome, Option, Some, List}
use Rattle.rbbi_model.specs.Ranges.{Range, InRange, Has}
use Rattle.rbbi_model.specs.SetTrees as model
use Rattle.rbbi_props.specs.Rows.{File}
use Rattle.rbbi_tree.specs.Trees.{PartTree, PartsTree}
use Rattle.rbbi_tree.specs.declared.syntax.Join.TheVariants.{Add}
use Rattle.rbbi_resolve.specs.SetValues.{HasProperty, joined_to, value_of_part, value_of_parts}
use Rattle.rbbi_resolve.specs.inner.Covered.{AreRespected, NamesRespect}

-- the part adds the code points of the range to what stands to its left
pub record IsLiteral (range : Range) (p : PartTree) : Type 0 where
  pub tree : model.SetTree
  pub value_is : (files : List File) (named : List ℕ → Option model.SetTree) (left : Option model.SetTree) →
      value_of_part files named left p ≡ joined_to Add (Some tree) left
  pub members : (files : List File) (c : ℕ) → model.InSet (HasProperty files) tree c ↔ InRange range c

-- The set has the code points of a run. But for those it has a code point exactly where it has the one that stands for it.
pub record FollowsRun (files : List File) (stand : ℕ → ℕ) (run : List Range) (tree : model.SetTree) : Type 0 where
  pub low : (c : ℕ) → model.InSet (HasProperty files) tree c → c ≤ 0x10FFFF
  pub held : (c : ℕ) → Has run c → model.InSet (HasProperty files) tree c
  pub onward : (c : ℕ) → c ≤ 0x10FFFF → model.InSet (HasProperty files) tree c → Has run c ⊎ model.InSet (HasProperty files) tree (stand c)
  pub back : (c : ℕ) → c ≤ 0x10FFFF → model.InSet (HasProperty files) tree (stand c) → Has run (stand c) ⊎ model.InSet (HasProperty files) tree c

-- what the parts that are left of all go on with: a value that follows the run
pub record IsRunning (files : List File) (bases : List (List Range)) (whole left : PartsTree) (run : List Range) : Type 0 where
  pub each : (stand : ℕ → ℕ) → AreRespected stand bases → (named : List ℕ → Option model.SetTree) → NamesRespect files stand named →
      (so_far : Option model.SetTree) × (value_of_parts files named (Some model.Nothing) whole ≡ value_of_parts files named so_far left)
      × IfSome so_far (FollowsRun files stand run)
