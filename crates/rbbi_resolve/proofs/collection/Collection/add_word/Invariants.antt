use Rattle.std.proofs.Common.{List}
use Rattle.std.specs.List.{AllByRecursion, Contains}
use Rattle.rbbi_model.specs.Ranges.{Range}
use Rattle.rbbi_props.specs.Rows.{File}
use Rattle.rbbi_resolve.specs.inner.Covered.{AreSingled, HasSingle, IsCollection}
use Rattle.rbbi_resolve.proofs.collection.Collection.add_word.Given as goal

abbrev pub invariant-loop-c : goal.invariant-loop-c
invariant-loop-c l = record {
  keeps : (base : List Range) → Contains l.initial.self.bases.items base → Contains l.self.bases.items base;
  added : AllByRecursion (HasSingle l.self.bases.items) l.yielded;
  singled : AreSingled l.self.bases.items l.self.characters.items;
  kept : (files : List File) → IsCollection files l.initial.self → IsCollection files l.self;
}
